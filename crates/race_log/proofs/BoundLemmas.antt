-- How many epochs are marked, and how many there are at most.
use Rattle.race_log.proofs.Common.{◌≡◌, ℕ, zero, suc, ◌+◌, ◌<◌, ◌≤◌, ◌∷◌, ◌++◌, [], ◌⊎◌, inl, inr, Bool, true, false, cond, refl, arith, ap, ◌∙◌, List, filter, length, slice_get, slice_set, IsTrue, cases_eq, Epoch, is_marked, marks_in}
use Rattle.race_log.proofs.PageLemmas.{get_here, get_there}

-- ---- how many are marked

counted : (b : Bool) (e : Epoch) (rest : List Epoch) → length (cond b (e ∷ rest) rest) ≡ length rest + cond b 1 0
counted true e rest = omega arith
counted false e rest = omega arith

-- one mark more or less
pub marks_set : (table : List Epoch) (i : ℕ) (s : Epoch) → marks_in (slice_set table i s) ≤ marks_in table + 1
marks_set [] i s = omega arith
marks_set (e ∷ table) zero s =
    let new = counted s.used s (filter (λ (x : Epoch). x.used) table) in
    let old = counted e.used e (filter (λ (x : Epoch). x.used) table) in
    let few = at_most s.used in
    omega (arith, new, old, few)
  where
    at_most : (b : Bool) → cond b 1 0 ≤ 1
    at_most true = omega arith
    at_most false = omega arith
marks_set (e ∷ table) (suc i) s =
    let new = counted e.used e (filter (λ (x : Epoch). x.used) (slice_set table i s)) in
    let old = counted e.used e (filter (λ (x : Epoch). x.used) table) in
    let rest = marks_set table i s in
    omega (arith, new, old, rest)

pub no_marks : (table : List Epoch) → ((i : ℕ) → i < length table → is_marked (slice_get table i) ≡ false) → marks_in table ≡ 0
no_marks [] none = refl
no_marks (e ∷ table) none =
    ap (λ b. length (cond b (e ∷ filter (λ (x : Epoch). x.used) table) (filter (λ (x : Epoch). x.used) table))) (none 0 (omega arith))
    ∙ no_marks table (λ i low. none (suc i) (omega (arith, low)))

pub all_marks : (table : List Epoch) → ((i : ℕ) → i < length table → IsTrue (is_marked (slice_get table i))) → marks_in table ≡ length table
all_marks [] all = refl
all_marks (e ∷ table) all =
    ap (λ b. length (cond b (e ∷ filter (λ (x : Epoch). x.used) table) (filter (λ (x : Epoch). x.used) table))) (all 0 (omega arith))
    ∙ ap suc (all_marks table (λ i low. all (suc i) (omega (arith, low))))

-- a mark that is taken away
pub unmarked : (table : List Epoch) (place i : ℕ) (s : Epoch) → i < place + 1 → place < length table → s.used ≡ false
    → (i < place → is_marked (slice_get table i) ≡ false) → is_marked (slice_get (slice_set table place s) i) ≡ false
unmarked table place i s most low free others = elim (cases_eq i place) [
  | inl is ↦ ap (λ k. is_marked (slice_get (slice_set table place s) k)) is ∙ (ap is_marked (get_here table place s low) ∙ free)
  | inr apart ↦ ap is_marked (get_there table place i s apart) ∙ others (omega (arith, apart, most))
]

-- ---- how many there are

-- one more is pushed, or none
pub push_grows : (b : Bool) (table news : List Epoch) (s : Epoch) → news ≡ cond b (table ++ s ∷ []) table
    → (length news ≡ length table) ⊎ (length news ≡ length table + 1)
push_grows false table news s e = inl (ap length e)
push_grows true table news s e = inr (ap length e ∙ longer table)
  where
    longer : (xs : List Epoch) → length (xs ++ s ∷ []) ≡ length xs + 1
    longer [] = refl
    longer (x ∷ xs) = let rest = longer xs in omega (arith, rest)
