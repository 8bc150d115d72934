-- First loads from one that is met on.
use Rattle.hart_replay.proofs.Common.{◌≡◌, ℕ, suc, ◌+◌, ◌-◌, ◌<◌, Bool, true, false, List, [], ◌∷◌, length, Option, Some, None, refl, sym, ◌∙◌, ap, arith, inl, inr, ◌==◌, ◌≢◌, nat_lt, eq-eqb, eqb_tells, nat_tests, logged, logged_from, taken_from, slot, Pending, due, met, IsWaiting, first_of, rest_of, ne_eqb}

-- a first load doesn't come before its place
logged_later : (rs : List (ℕ × ℕ)) (b k : ℕ) → k < b → logged_from b rs k ≡ None
logged_later [] b k h = refl
logged_later (r ∷ rs) b k h =
    let e : (k == b + r.0) ≡ false = ne_eqb k (b + r.0) (λ q. absurd (omega arith)) in
    ap (λ x. elim x as (λ y. Option ℕ) [ true ↦ Some r.1 | false ↦ logged_from (b + r.0 + 1) rs k ]) e ∙ logged_later rs (b + r.0 + 1) k (omega arith)

same_test : (d a b : ℕ) → (d + a == d + b) ≡ (a == b)
same_test d a b = elim (eqb_tells a b) [
  | inl p ↦ eq-eqb (d + a) (d + b) (ap (λ n. d + n) p.1) ∙ sym p.0
  | inr p ↦ ne_eqb (d + a) (d + b) (λ q. p.1 (omega (arith, q))) ∙ sym p.0
]

same_order : (d a b : ℕ) → nat_lt (d + a) (d + b) ≡ nat_lt a b
same_order d a b = grind (arith, nat_tests)

-- places may be counted from elsewhere
logged_shift : (rs : List (ℕ × ℕ)) (d b k : ℕ) → logged_from (d + b) rs (d + k) ≡ logged_from b rs k
logged_shift [] d b k = refl
logged_shift (r ∷ rs) d b k =
    let place : d + b + r.0 ≡ d + (b + r.0) = omega arith in
    let next : d + b + r.0 + 1 ≡ d + (b + r.0 + 1) = omega arith in
    ap (λ x. elim (d + k == x) as (λ y. Option ℕ) [ true ↦ Some r.1 | false ↦ logged_from (d + b + r.0 + 1) rs (d + k) ]) place
    ∙ ap (λ x. elim x as (λ y. Option ℕ) [ true ↦ Some r.1 | false ↦ logged_from (d + b + r.0 + 1) rs (d + k) ]) (same_test d k (b + r.0))
    ∙ ap (λ (o : Option ℕ). elim (k == b + r.0) as (λ y. Option ℕ) [ true ↦ Some r.1 | false ↦ o ]) (ap (λ x. logged_from x rs (d + k)) next ∙ logged_shift rs d (b + r.0 + 1) k)

taken_shift : (rs : List (ℕ × ℕ)) (d b k : ℕ) → taken_from (d + b) rs (d + k) ≡ taken_from b rs k
taken_shift [] d b k = refl
taken_shift (r ∷ rs) d b k =
    let place : d + b + r.0 ≡ d + (b + r.0) = omega arith in
    let next : d + b + r.0 + 1 ≡ d + (b + r.0 + 1) = omega arith in
    ap (λ x. elim (nat_lt x (d + k)) as (λ y. ℕ) [ true ↦ 1 + taken_from (d + b + r.0 + 1) rs (d + k) | false ↦ 0 ]) place
    ∙ ap (λ x. elim x as (λ y. ℕ) [ true ↦ 1 + taken_from (d + b + r.0 + 1) rs (d + k) | false ↦ 0 ]) (same_order d (b + r.0) k)
    ∙ ap (λ (n : ℕ). elim (nat_lt (b + r.0) k) as (λ y. ℕ) [ true ↦ 1 + n | false ↦ 0 ]) (ap (λ x. taken_from x rs (d + k)) next ∙ taken_shift rs d (b + r.0 + 1) k)

-- the first load of the place is the one that is due
pub logged-due : (skipped : ℕ) (rs : List (ℕ × ℕ)) → IsWaiting skipped rs → logged rs skipped ≡ due skipped rs
logged-due skipped [] w = refl
logged-due skipped (r ∷ rs) w = elim (eqb_tells skipped r.0) [
  | inl p ↦ here p.0 p.1
  | inr p ↦ there p.0 p.1
]
  where
    here : (skipped == r.0) ≡ true → skipped ≡ r.0 → logged (r ∷ rs) skipped ≡ due skipped (r ∷ rs)
    here t e =
        ap (λ x. elim x as (λ y. Option ℕ) [ true ↦ Some r.1 | false ↦ logged_from (0 + r.0 + 1) rs skipped ]) (eq-eqb skipped (0 + r.0) (omega (arith, e)))
        ∙ sym (ap (λ x. elim x as (λ y. Option ℕ) [ true ↦ Some r.1 | false ↦ None ]) t)

    there : (skipped == r.0) ≡ false → skipped ≢ r.0 → logged (r ∷ rs) skipped ≡ due skipped (r ∷ rs)
    there t e =
        ap (λ x. elim x as (λ y. Option ℕ) [ true ↦ Some r.1 | false ↦ logged_from (0 + r.0 + 1) rs skipped ]) (ne_eqb skipped (0 + r.0) (λ q. e (omega (arith, q))))
        ∙ logged_later rs (0 + r.0 + 1) skipped (omega (arith, w))
        ∙ sym (ap (λ x. elim x as (λ y. Option ℕ) [ true ↦ Some r.1 | false ↦ None ]) t)

-- what is still to be met, by whether the first one was
abbrev pub met_by : ℕ → (ℕ × ℕ) → List (ℕ × ℕ) → Bool → Pending
met_by skipped r rs x = elim x as (λ y. Pending) [ true ↦ record { loads = rs; skipped = 0 } | false ↦ record { loads = r ∷ rs; skipped = skipped + 1 } ]

-- after a loading access the places are counted from the first load that it met
pub logged-met : (skipped : ℕ) (rs : List (ℕ × ℕ)) (k : ℕ) → logged rs (skipped + 1 + k) ≡ logged (met skipped rs).loads ((met skipped rs).skipped + k)
logged-met skipped [] k = refl
logged-met skipped (r ∷ rs) k = elim (eqb_tells skipped r.0) [
  | inl p ↦ here p.0 p.1
  | inr p ↦ sym (ap (λ (x : Bool). logged (met_by skipped r rs x).loads ((met_by skipped r rs x).skipped + k)) p.0)
]
  where
    here : (skipped == r.0) ≡ true → skipped ≡ r.0 → logged (r ∷ rs) (skipped + 1 + k) ≡ logged (met skipped (r ∷ rs)).loads ((met skipped (r ∷ rs)).skipped + k)
    here t e =
        let base : 0 + r.0 + 1 ≡ skipped + 1 + 0 = omega (arith, e) in
        let past : (skipped + 1 + k == 0 + r.0) ≡ false = ne_eqb (skipped + 1 + k) (0 + r.0) (λ q. absurd (omega (arith, q, e))) in
        let none : k ≡ 0 + k = omega arith in
        ap (λ x. elim x as (λ y. Option ℕ) [ true ↦ Some r.1 | false ↦ logged_from (0 + r.0 + 1) rs (skipped + 1 + k) ]) past
        ∙ ap (λ x. logged_from x rs (skipped + 1 + k)) base
        ∙ logged_shift rs (skipped + 1) 0 k
        ∙ ap (λ x. logged_from 0 rs x) none
        ∙ sym (ap (λ (x : Bool). logged (met_by skipped r rs x).loads ((met_by skipped r rs x).skipped + k)) t)

pub left-met : (skipped : ℕ) (rs : List (ℕ × ℕ)) (k : ℕ) → length rs - taken_from 0 rs (skipped + 1 + k) ≡ length (met skipped rs).loads - taken_from 0 (met skipped rs).loads ((met skipped rs).skipped + k)
left-met skipped [] k = refl
left-met skipped (r ∷ rs) k = elim (eqb_tells skipped r.0) [
  | inl p ↦ here p.0 p.1
  | inr p ↦ sym (ap (λ (x : Bool). length (met_by skipped r rs x).loads - taken_from 0 (met_by skipped r rs x).loads ((met_by skipped r rs x).skipped + k)) p.0)
]
  where
    here : (skipped == r.0) ≡ true → skipped ≡ r.0 → length (r ∷ rs) - taken_from 0 (r ∷ rs) (skipped + 1 + k) ≡ length (met skipped (r ∷ rs)).loads - taken_from 0 (met skipped (r ∷ rs)).loads ((met skipped (r ∷ rs)).skipped + k)
    here t e =
        let base : 0 + r.0 + 1 ≡ skipped + 1 + 0 = omega (arith, e) in
        let past : nat_lt (0 + r.0) (skipped + 1 + k) ≡ true = grind (arith, nat_tests) in
        let none : k ≡ 0 + k = omega arith in
        let taken : taken_from 0 (r ∷ rs) (skipped + 1 + k) ≡ 1 + taken_from 0 rs (0 + k) =
        ap (λ (x : Bool). elim x as (λ y. ℕ) [ true ↦ 1 + taken_from (0 + r.0 + 1) rs (skipped + 1 + k) | false ↦ 0 ]) past
        ∙ ap (λ x. 1 + taken_from x rs (skipped + 1 + k)) base
        ∙ ap (λ (x : ℕ). 1 + x) (taken_shift rs (skipped + 1) 0 k)
        ∙ ap (λ x. 1 + taken_from 0 rs x) none in
        let less : suc (length rs) - taken_from 0 (r ∷ rs) (skipped + 1 + k) ≡ length rs - taken_from 0 rs (0 + k) = omega (arith, taken) in
        less ∙ sym (ap (λ (x : Bool). length (met_by skipped r rs x).loads - taken_from 0 (met_by skipped r rs x).loads ((met_by skipped r rs x).skipped + k)) t)

-- store-conditionals
pub slot-first : (bs : List Bool) → slot bs 0 ≡ first_of bs
slot-first [] = refl
slot-first (b ∷ bs) = refl

pub slot-rest : (bs : List Bool) (k : ℕ) → slot bs (suc k) ≡ slot (rest_of bs) k
slot-rest [] k = refl
slot-rest (b ∷ bs) k = refl

pub length-rest : (bs : List Bool) (k : ℕ) → length bs - suc k ≡ length (rest_of bs) - k
length-rest [] k = omega arith
length-rest (b ∷ bs) k = let e : suc (length bs) - suc k ≡ length bs - k = omega arith in e
