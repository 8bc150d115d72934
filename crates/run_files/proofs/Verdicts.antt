-- An audit finds one thing.
use Rattle.run_files.proofs.Common.{◌≡◌, ℕ, zero, suc, ◌+◌, ◌<◌, ◌==◌, ◌⊎◌, Bool, true, false, List, [], ◌∷◌, take, refl, sym, ◌∙◌, ap, subst, arith, inl, inr, slice_get, DifferFirst, IsVerdict, verdict_from, VerdictsAreUnique, eqb-true}
use Rattle.run_files.specs.declared.verdict.Verdict.{Verdict}
use Rattle.run_files.specs.declared.verdict.Verdict.TheVariants.{Agree, Differ}

-- what stands ahead of a place stands in what is taken up to it
taken_has : (xs : List ℕ) (at n : ℕ) → at < n → slice_get (take n xs) at ≡ slice_get xs at
taken_has [] at zero h = absurd (omega (arith, h))
taken_has [] at (suc n) h = refl
taken_has (x ∷ xs) at zero h = absurd (omega (arith, h))
taken_has (x ∷ xs) zero (suc n) h = refl
taken_has (x ∷ xs) (suc at) (suc n) h = taken_has xs at n (omega (arith, h))

not_before : (xs ys : List ℕ) (at n : ℕ) → at < n → DifferFirst xs ys at → DifferFirst xs ys n → ⊥
not_before xs ys at n h a b = a.there (sym (taken_has xs at n h) ∙ ap (λ (zs : List ℕ). slice_get zs at) b.before ∙ taken_has ys at n h)

compared : (m n : ℕ) → (m ≡ n) ⊎ ((m < n) ⊎ (n < m))
compared m n = grind arith

first_is_one : (xs ys : List ℕ) (m n : ℕ) → DifferFirst xs ys m → DifferFirst xs ys n → m ≡ n
first_is_one xs ys m n a b = elim (compared m n) [
  | inl e ↦ e
  | inr later ↦ elim later [ inl h ↦ absurd (not_before xs ys m n h a b) | inr h ↦ absurd (not_before xs ys n m h b a) ]
]

not_same : (xs ys : List ℕ) (n : ℕ) → xs ≡ ys → DifferFirst xs ys n → ⊥
not_same xs ys n e d = d.there (ap (λ (zs : List ℕ). slice_get zs n) e)

one_verdict : (file log : List ℕ) (v w : Verdict) → IsVerdict file log v → IsVerdict file log w → v ≡ w
one_verdict file log Agree Agree a b = refl
one_verdict file log Agree (Differ n) a b = absurd (not_same log file n a b)
one_verdict file log (Differ m) Agree a b = absurd (not_same log file m b a)
one_verdict file log (Differ m) (Differ n) a b = ap Differ (first_is_one log file m n a b)

-- ---- the verdict as a function

-- a verdict on what is left of two lists from a place on
IsLater : ℕ → (file log : List ℕ) → Verdict → Type 0
IsLater place file log Agree = log ≡ file
IsLater place file log (Differ n) = (m : ℕ) × (n ≡ place + m) × DifferFirst log file m

not_number : (x y : ℕ) → (x == y) ≡ false → x ≡ y → ⊥
not_number x y f e = grind arith

no_more : (x : ℕ) (xs : List ℕ) → DifferFirst (x ∷ xs) [] 0
no_more x xs = record { before = refl; there = λ e. cc }

no_less : (x : ℕ) (xs : List ℕ) → DifferFirst [] (x ∷ xs) 0
no_less x xs = record { before = refl; there = λ e. cc }

here : (x y : ℕ) (xs ys : List ℕ) → (x == y) ≡ false → DifferFirst (y ∷ ys) (x ∷ xs) 0
here x y xs ys f = record { before = refl; there = λ e. not_number x y f (first_same y x e) }
  where
    first_same : (y x : ℕ) → slice_get (y ∷ ys) 0 ≡ slice_get (x ∷ xs) 0 → x ≡ y
    first_same y x e = cc

behind : (x y : ℕ) (xs ys : List ℕ) (m : ℕ) → x ≡ y → DifferFirst ys xs m → DifferFirst (y ∷ ys) (x ∷ xs) (suc m)
behind x y xs ys m e d = record { before = ap (λ (z : ℕ). z ∷ take m ys) (sym e) ∙ ap (λ (zs : List ℕ). x ∷ zs) d.before; there = d.there }

later : (place x y : ℕ) (xs ys : List ℕ) (v : Verdict) → x ≡ y → IsLater (place + 1) xs ys v → IsLater place (x ∷ xs) (y ∷ ys) v
unfolding IsLater
later place x y xs ys Agree e same = ap (λ (z : ℕ). z ∷ ys) (sym e) ∙ ap (λ (zs : List ℕ). x ∷ zs) same
later place x y xs ys (Differ n) e h = (suc h.0, omega (arith, h.1), behind x y xs ys h.0 e h.2)

by_test : (b : Bool) (place x y : ℕ) (xs ys : List ℕ) → (x == y) ≡ b → IsLater (place + 1) xs ys (verdict_from (place + 1) xs ys) → IsLater place (x ∷ xs) (y ∷ ys) (elim b [ true ↦ verdict_from (place + 1) xs ys | false ↦ Differ place ])
unfolding IsLater
by_test true place x y xs ys e rest = later place x y xs ys (verdict_from (place + 1) xs ys) (eqb-true x y e) rest
by_test false place x y xs ys e rest = (0, omega arith, here x y xs ys e)

told : (place : ℕ) (file log : List ℕ) → IsLater place file log (verdict_from place file log)
unfolding IsLater
told place [] [] = refl
told place [] (y ∷ ys) = (0, omega arith, no_more y ys)
told place (x ∷ xs) [] = (0, omega arith, no_less x xs)
told place (x ∷ xs) (y ∷ ys) = by_test (x == y) place x y xs ys refl (told (place + 1) xs ys)

from_start : (file log : List ℕ) (v : Verdict) → IsLater 0 file log v → IsVerdict file log v
unfolding IsLater
from_start file log Agree h = h
from_start file log (Differ n) h = let e : h.0 ≡ n = omega (arith, h.1) in subst (λ (k : ℕ). DifferFirst log file k) e h.2

pub verdicts : VerdictsAreUnique
verdicts = record { one = one_verdict; is = λ file log. from_start file log (verdict_from 0 file log) (told 0 file log) }
