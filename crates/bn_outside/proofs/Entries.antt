-- A store's map, by its entries and by the map that keeps them.
use Rattle.std.proofs.Common.{◌≡◌, ◌≢◌, ℕ, List, [], ◌∷◌, ◌∙◌, ap, sym, cond, Bool, true, false, refl, Option, Some}
use Rattle.std.specs.Prelude.{Vec, String, string_bytes, option_map, string_cmp}
use Rattle.std.specs.Map.{lookup}
use Rattle.std.specs.Str.{bytes_eq}
use Rattle.std.specs.BTreeMap.{BTreeMap, get_by_text, UpdatesBy}
use Rattle.std.specs.Ordering.{nat_cmp, is_eq}
use Rattle.std.specs.Cmp.Lexicographic.{slice_cmp}
use Rattle.std.proofs.lemmas.Map.Text.{is_eq-slice_cmp, btree_map_updates_text}
use Rattle.std.proofs.lemmas.Slice.Eq.{bytes_eq-Decides}
use Rattle.std.proofs.lemmas.Bool.{cond-true, cond-false, false_from_ne_true}
use Rattle.bn_outside.specs.InMemory.{files_in, entries_of}

-- a choice by a test, seen through a function
option_map-cond : {X Y : Type 0} (f : X → Y) (b c : Bool) (x : X) (o : Option X) (p : Option Y) → b ≡ c → p ≡ option_map f o → cond c (Some (f x)) p ≡ option_map f (cond b (Some x) o)
option_map-cond f true true x o p e q = refl
option_map-cond f false false x o p e q = q
option_map-cond f true false x o p e q = cc
option_map-cond f false true x o p e q = cc

-- the bytes under a name are those that the map finds
pub entries_found : {A B : Type 0} (name : List ℕ) (kept : List (String A × Vec ℕ B)) → files_in (entries_of kept) name ≡ option_map (λ v. v.items) (lookup (λ k. is_eq (slice_cmp nat_cmp name (string_bytes k))) kept)
entries_found name [] = refl
entries_found name (entry ∷ kept) = option_map-cond (λ v. v.items) _ _ entry.1 _ _ (is_eq-slice_cmp name (string_bytes entry.0)) (entries_found name kept)

-- the bytes under each name after a map took bytes for one name
entries_put : {A B : Type 0} (old new : BTreeMap (String A) (Vec ℕ B)) (name : List ℕ) (value : Vec ℕ B) → UpdatesBy string_cmp (λ k. slice_cmp nat_cmp name (string_bytes k)) old new (Some value)
    → (other : List ℕ) → files_in (entries_of new.entries) other ≡ cond (bytes_eq name other) (Some value.items) (files_in (entries_of old.entries) other)
entries_put old new name value h other =
    entries_found other new.entries
    ∙ (ap (option_map (λ v. v.items)) (btree_map_updates_text name old new (Some value) h other)
    ∙ sym (option_map-cond (λ v. v.items) (bytes_eq name other) _ value (get_by_text old other) _ refl (entries_found other old.entries)))

-- the name has these bytes
pub put_there : {A B : Type 0} (old new : BTreeMap (String A) (Vec ℕ B)) (name bytes : List ℕ) (key : String A) (value : Vec ℕ B) → string_bytes key ≡ name → value.items ≡ bytes → UpdatesBy string_cmp (string_cmp key) old new (Some value)
    → files_in (entries_of new.entries) name ≡ Some bytes
put_there old new name bytes key value k v h =
    let same : bytes_eq (string_bytes key) name ≡ true = (bytes_eq-Decides (string_bytes key) name).1 k in
    entries_put old new (string_bytes key) value h name ∙ (cond-true _ _ _ same ∙ ap Some v)

-- other names have what they had
pub put_elsewhere : {A B : Type 0} (old new : BTreeMap (String A) (Vec ℕ B)) (name : List ℕ) (key : String A) (value : Vec ℕ B) → string_bytes key ≡ name → UpdatesBy string_cmp (string_cmp key) old new (Some value)
    → (other : List ℕ) → other ≢ name → files_in (entries_of new.entries) other ≡ files_in (entries_of old.entries) other
put_elsewhere old new name key value k h other differs =
    let apart : bytes_eq (string_bytes key) other ≡ false = false_from_ne_true _ (λ e. differs (sym ((bytes_eq-Decides (string_bytes key) other).0 e) ∙ k)) in
    entries_put old new (string_bytes key) value h other ∙ cond-false _ _ _ apart
