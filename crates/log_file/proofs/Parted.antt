-- Bytes are those of records, or somewhere none begins.
use Rattle.log_file.proofs.Common.{◌≡◌, ◌≤◌, ◌<◌, ◌+◌, ℕ, zero, suc, Bool, true, false, List, [], ◌∷◌, ◌++◌, length, drop, Option, Some, None, ◌∙◌, ap, subst, sym, refl, arith, inl, inr, ◌⊎◌, append_assoc, length-append, slice_index, IsTrue, flat_map, AllByRecursion, get_or-drop, AreBytes, Record, TellTheirSize, bytes_of, size_of, is_marked, Fits, NoRecord, AreRead}
use Rattle.std.proofs.lemmas.Bool.{cases_lt}
use Rattle.log_record.specs.Laws.{AreWritten}
use Rattle.log_record.specs.Reading.{record_in}
use Rattle.log_file.proofs.Again.{some_bytes}
use Rattle.log_file.proofs.Causes.{same_some, none_some}

-- a record that bytes begin with, and the rest
record Begun (format : ℕ) (bytes : List ℕ) : Type 0 where
  pub first : Record
  pub rest : List ℕ
  pub at : ℕ
  pub rest_is : rest ≡ drop at bytes
  pub fits : Fits format first
  pub parts : bytes ≡ bytes_of first ++ rest

abbrev NotBegun : ℕ → List ℕ → Type 0
NotBegun format bytes = (r : Record) (y : List ℕ) → Fits format r → bytes ≡ bytes_of r ++ y → ⊥

size-told : TellTheirSize → (format : ℕ) (bytes : List ℕ) (r : Record) (y : List ℕ) → Fits format r → bytes ≡ bytes_of r ++ y → size_of (slice_index bytes 0) ≡ Some (length (bytes_of r))
size-told tell format bytes r y f e = ap (λ (t : List ℕ). size_of (slice_index t 0)) e ∙ tell r y f.fields

unmarked : (b : Bool) → IsTrue b → b ≡ false → ⊥
unmarked true t e = grind arith
unmarked false t e = grind arith

marked : AreWritten → AreRead → (format : ℕ) (bytes : List ℕ) (n : ℕ) (b : Bool) → AreBytes bytes → size_of (slice_index bytes 0) ≡ Some n → n ≤ length bytes → is_marked format (record_in bytes) ≡ b → Begun format bytes ⊎ NotBegun format bytes
marked written read format bytes n true are size long m =
    let w = written n bytes are size long in
    inl (record { first = record_in bytes; rest = drop n bytes; at = n; rest_is = refl; fits = record { fields = w.0; mark = subst (λ (t : Bool). IsTrue t) (sym m) refl }; parts = w.1 })
marked written read format bytes n false are size long m = inr (λ r y f e.
    let same : record_in bytes ≡ r = ap record_in e ∙ read r y f.fields in
    unmarked (is_marked format r) f.mark (ap (is_marked format) (sym same) ∙ m))

sized : TellTheirSize → AreWritten → AreRead → (format : ℕ) (bytes : List ℕ) (n : ℕ) → AreBytes bytes → size_of (slice_index bytes 0) ≡ Some n → (length bytes < n) ⊎ (n ≤ length bytes) → Begun format bytes ⊎ NotBegun format bytes
sized tell written read format bytes n are size (inl short) = inr (λ r y f e.
    let same : n ≡ length (bytes_of r) = same_some n (length (bytes_of r)) (sym size ∙ size-told tell format bytes r y f e) in
    omega (arith, same, short, ap (λ (t : List ℕ). length t) e ∙ length-append (bytes_of r) y))
sized tell written read format bytes n are size (inr long) = marked written read format bytes n (is_marked format (record_in bytes)) are size long refl

begun : TellTheirSize → AreWritten → AreRead → (format : ℕ) (bytes : List ℕ) (o : Option ℕ) → AreBytes bytes → size_of (slice_index bytes 0) ≡ o → Begun format bytes ⊎ NotBegun format bytes
begun tell written read format bytes None are size = inr (λ r y f e. none_some (length (bytes_of r)) (sym size ∙ size-told tell format bytes r y f e))
begun tell written read format bytes (Some n) are size = sized tell written read format bytes n are size (cases_lt (length bytes) n)

-- records that are all the bytes
pub record Parted (format : ℕ) (bytes : List ℕ) : Type 0 where
  pub records : List Record
  pub fit : AllByRecursion (Fits format) records
  pub parts : bytes ≡ flat_map bytes_of records

pub record Stuck (format : ℕ) (bytes : List ℕ) : Type 0 where
  pub place : ℕ
  pub none : NoRecord format bytes place

more : (format : ℕ) (bytes rest : List ℕ) (r : Record) → Fits format r → bytes ≡ bytes_of r ++ rest → Parted format rest ⊎ Stuck format rest → Parted format bytes ⊎ Stuck format bytes
more format bytes rest r f e (inl s) = inl (record { records = r ∷ s.records; fit = (f, s.fit); parts = e ∙ ap (λ (t : List ℕ). bytes_of r ++ t) s.parts })
more format bytes rest r f e (inr s) =
    let n = s.none in
    inr (record {
      place = length (bytes_of r) + s.place;
      none = record {
        before = r ∷ n.before;
        rest = n.rest;
        fit = (f, n.fit);
        parts = e ∙ ap (λ (t : List ℕ). bytes_of r ++ t) n.parts ∙ sym (append_assoc (bytes_of r) (flat_map bytes_of n.before) n.rest);
        place_is = omega (arith, n.place_is, length-append (bytes_of r) (flat_map bytes_of n.before));
        more = n.more;
        none = n.none;
      };
    })

module _ (tell : TellTheirSize) (written : AreWritten) (read : AreRead) (format : ℕ) where
  -- what follows the first record is parted by a call with less fuel
  onward : (fuel : ℕ) (bytes : List ℕ) → AreBytes bytes → 0 < length bytes → length bytes ≤ suc fuel → ((rest : List ℕ) → AreBytes rest → length rest ≤ fuel → Parted format rest ⊎ Stuck format rest)
      → Begun format bytes ⊎ NotBegun format bytes → Parted format bytes ⊎ Stuck format bytes
  onward fuel bytes are some few go (inr none) =
      inr (record { place = 0; none = record { before = []; rest = bytes; fit = tt; parts = refl; place_is = refl; more = some; none = none } })
  onward fuel bytes are some few go (inl g) =
      let are_rest : AreBytes g.rest = λ i. subst (λ (t : List ℕ). slice_index t i < 256) (sym g.rest_is) (rw get_or-drop (are (g.at + i))) in
      let fewer : length g.rest ≤ fuel = omega (arith, few, some_bytes g.first, ap (λ (t : List ℕ). length t) g.parts ∙ length-append (bytes_of g.first) g.rest) in
      more format bytes g.rest g.first g.fits g.parts (go g.rest are_rest fewer)

  pub parted : (fuel : ℕ) (bytes : List ℕ) → AreBytes bytes → length bytes ≤ fuel → Parted format bytes ⊎ Stuck format bytes
  parted fuel [] are few = inl (record { records = []; fit = tt; parts = refl })
  parted zero (b ∷ bs) are few = absurd (omega (arith, few))
  parted (suc fuel) (b ∷ bs) are few =
      onward fuel (b ∷ bs) are (omega arith) few (λ rest are_rest fewer. parted fuel rest are_rest fewer) (begun tell written read format (b ∷ bs) (size_of (slice_index (b ∷ bs) 0)) are refl)
