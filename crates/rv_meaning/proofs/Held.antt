-- All addresses of a part of a program are in that part alone.
use Rattle.rv_meaning.proofs.Common.{◌≡◌, ◌≤◌, ℕ, Bool, true, false, List, [], ◌∷◌, ◌∙◌, ap, subst, arith, Some, Program, Part, AreApart, end_of, is_in, part_or, part_at, IsCode}

-- a part that is found begins at the low bound or later
found_from : (low high : ℕ) (ps : List Part) (p : Part) (a : ℕ) → AreApart low high ps → part_at ps a ≡ Some p → low ≤ p.first
found_from low high [] p a h e = cc
found_from low high (q ∷ qs) p a h e = by_test (is_in q a) e (found_from (end_of q) high qs p a h.1)
  where
    by_test : (t : Bool) → part_or t q (part_at qs a) ≡ Some p → (part_at qs a ≡ Some p → end_of q ≤ p.first) → low ≤ p.first
    by_test true e rest = let same : q ≡ p = cc in subst (λ (x : Part). low ≤ x.first) same h.0
    by_test false e rest = let later = rest e in omega (arith, later, h.0)

beyond : (p q : Part) (a : ℕ) → is_in p a ≡ true → end_of q ≤ p.first → is_in q a ≡ false
beyond p q a has e = grind arith

-- an address that is in the part of another is found there too
pub part_at-same : (low high : ℕ) (ps : List Part) (p : Part) (a b : ℕ) → AreApart low high ps → part_at ps a ≡ Some p → is_in p b ≡ true → part_at ps b ≡ Some p
part_at-same low high [] p a b h e has = cc
part_at-same low high (q ∷ qs) p a b h e has = by_test (is_in q a) e (λ later. part_at-same (end_of q) high qs p a b h.1 later has)
  where
    by_test : (t : Bool) → part_or t q (part_at qs a) ≡ Some p → (part_at qs a ≡ Some p → part_at qs b ≡ Some p) → part_at (q ∷ qs) b ≡ Some p
    by_test true e rest =
        let same : q ≡ p = cc in
        let first = ap (λ (x : Part). part_or (is_in x b) q (part_at qs b)) same in
        first ∙ (ap (λ t. part_or t q (part_at qs b)) has ∙ ap (λ (x : Part). Some x) same)
    by_test false e rest =
        let far = found_from (end_of q) high qs p a h.1 e in
        ap (λ t. part_or t q (part_at qs b)) (beyond p q b has far) ∙ rest e

-- an executable part that is found is code
pub is_code : (i : Program) (low high : ℕ) (p : Part) (a : ℕ) → AreApart low high i.parts → part_at i.parts a ≡ Some p → p.executable ≡ true → IsCode i p
is_code i low high p a h e x = record { executable = x; own = λ b has. part_at-same low high i.parts p a b h e has }
