-- Things one after another, each of which has a spelling that begins no other's.
use Rattle.log_file.proofs.Common.{◌≡◌, ℕ, ◌<◌, List, [], ◌∷◌, ◌++◌, length, refl, sym, ap, ◌∙◌, append_assoc, length-append, arith, flat_map, AllByRecursion}
use Rattle.std.proofs.lemmas.List.Concat.{flat_map-cons}

-- no spelling is empty, and none begins another
pub record ArePrefixFree {X : Type 0} (spell : X → List ℕ) (Fit : X → Type 0) : Type 0 where
  pub some : (r : X) → Fit r → 0 < length (spell r)
  pub one : (r s : X) (x y : List ℕ) → Fit r → Fit s → spell r ++ x ≡ spell s ++ y → (r ≡ s) × (x ≡ y)

-- no place in a row is one at which nothing begins
pub no_stop : {X : Type 0} (spell : X → List ℕ) (Fit : X → Type 0) → ArePrefixFree spell Fit → (rs before : List X) (rest : List ℕ)
    → AllByRecursion Fit rs → AllByRecursion Fit before → flat_map spell rs ≡ flat_map spell before ++ rest → 0 < length rest
    → ((r : X) (y : List ℕ) → Fit r → rest ≡ spell r ++ y → ⊥) → ⊥
no_stop spell Fit free [] [] rest fr fb e more none = omega (arith, more, ap length e)
no_stop spell Fit free (r ∷ rs) [] rest fr fb e more none = none r (flat_map spell rs) fr.0 (sym e ∙ flat_map-cons spell r rs)
no_stop spell Fit free [] (b ∷ bs) rest fr fb e more none = omega (arith, more, ap length e, length-append (flat_map spell (b ∷ bs)) rest)
no_stop spell Fit free (r ∷ rs) (b ∷ bs) rest fr fb e more none =
    let f : spell r ++ flat_map spell rs ≡ spell b ++ (flat_map spell bs ++ rest) =
    sym (flat_map-cons spell r rs) ∙ e ∙ ap (λ (t : List ℕ). t ++ rest) (flat_map-cons spell b bs) ∙ append_assoc (spell b) (flat_map spell bs) rest in
    let o = free.one r b (flat_map spell rs) (flat_map spell bs ++ rest) fr.0 fb.0 f in
    no_stop spell Fit free rs bs rest fr.1 fb.1 o.1 more none

nothing_left : {X : Type 0} (spell : X → List ℕ) (Fit : X → Type 0) → ArePrefixFree spell Fit → (r : X) (rs : List X) → Fit r → flat_map spell (r ∷ rs) ≡ [] → ⊥
nothing_left spell Fit free r rs fit e = omega (arith, free.some r fit, ap length (sym (flat_map-cons spell r rs) ∙ e), length-append (spell r) (flat_map spell rs))

-- bytes are those of at most one row
pub one_row : {X : Type 0} (spell : X → List ℕ) (Fit : X → Type 0) → ArePrefixFree spell Fit → (rs ss : List X) → AllByRecursion Fit rs → AllByRecursion Fit ss → flat_map spell rs ≡ flat_map spell ss → rs ≡ ss
one_row spell Fit free [] [] fr fs e = refl
one_row spell Fit free (r ∷ rs) [] fr fs e = absurd (nothing_left spell Fit free r rs fr.0 e)
one_row spell Fit free [] (s ∷ ss) fr fs e = absurd (nothing_left spell Fit free s ss fs.0 (sym e))
one_row {X = X} spell Fit free (r ∷ rs) (s ∷ ss) fr fs e =
    let o = free.one r s (flat_map spell rs) (flat_map spell ss) fr.0 fs.0 (sym (flat_map-cons spell r rs) ∙ e ∙ flat_map-cons spell s ss) in
    ap (λ (x : X). x ∷ rs) o.0 ∙ ap (λ (xs : List X). s ∷ xs) (one_row spell Fit free rs ss fr.1 fs.1 o.1)

-- if two rows end at places at which nothing begins, they are one
pub one_stop : {X : Type 0} (spell : X → List ℕ) (Fit : X → Type 0) → ArePrefixFree spell Fit → (ls bs : List X) (x y : List ℕ)
    → AllByRecursion Fit ls → AllByRecursion Fit bs → flat_map spell ls ++ x ≡ flat_map spell bs ++ y
    → ((r : X) (z : List ℕ) → Fit r → x ≡ spell r ++ z → ⊥) → ((r : X) (z : List ℕ) → Fit r → y ≡ spell r ++ z → ⊥) → ls ≡ bs
one_stop spell Fit free [] [] x y fa fb e none_a none_b = refl
one_stop spell Fit free (a ∷ ls) [] x y fa fb e none_a none_b =
    absurd (none_b a (flat_map spell ls ++ x) fa.0 (sym e ∙ ap (λ (t : List ℕ). t ++ x) (flat_map-cons spell a ls) ∙ append_assoc (spell a) (flat_map spell ls) x))
one_stop spell Fit free [] (b ∷ bs) x y fa fb e none_a none_b =
    absurd (none_a b (flat_map spell bs ++ y) fb.0 (e ∙ ap (λ (t : List ℕ). t ++ y) (flat_map-cons spell b bs) ∙ append_assoc (spell b) (flat_map spell bs) y))
one_stop {X = X} spell Fit free (a ∷ ls) (b ∷ bs) x y fa fb e none_a none_b =
    let f : spell a ++ (flat_map spell ls ++ x) ≡ spell b ++ (flat_map spell bs ++ y) =
    sym (append_assoc (spell a) (flat_map spell ls) x) ∙ ap (λ (t : List ℕ). t ++ x) (sym (flat_map-cons spell a ls)) ∙ e
    ∙ ap (λ (t : List ℕ). t ++ y) (flat_map-cons spell b bs) ∙ append_assoc (spell b) (flat_map spell bs) y in
    let o = free.one a b (flat_map spell ls ++ x) (flat_map spell bs ++ y) fa.0 fb.0 f in
    ap (λ (c : X). c ∷ ls) o.0 ∙ ap (λ (cs : List X). b ∷ cs) (one_stop spell Fit free ls bs x y fa.1 fb.1 o.1 none_a none_b)
