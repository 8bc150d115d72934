-- Lemmas on tests.
use Rattle.race_log.proofs.Common.{◌≡◌, ◌≢◌, ℕ, zero, suc, ◌<◌, Bool, true, false, not, ◌&&◌, ◌||◌, ◌⊎◌, ◌==◌, refl, inl, inr, arith, any_below}

pub and_left : (a b : Bool) → (a && b) ≡ true → a ≡ true
and_left true b h = refl
and_left false b h = h

pub and_right : (a b : Bool) → (a && b) ≡ true → b ≡ true
and_right true b h = h
and_right false b h = cc

pub both : (a b : Bool) → a ≡ true → b ≡ true → (a && b) ≡ true
both a b h k = grind arith

pub or_split : (a b : Bool) → (a || b) ≡ true → (a ≡ true) ⊎ (b ≡ true)
or_split true b h = inl refl
or_split false b h = inr h

pub or_first : (a b : Bool) → a ≡ true → (a || b) ≡ true
or_first true b h = refl
or_first false b h = cc

pub or_second : (a b : Bool) → b ≡ true → (a || b) ≡ true
or_second true b h = refl
or_second false b h = h

pub known : (b : Bool) → (b ≡ true) ⊎ (b ≡ false)
known true = inl refl
known false = inr refl

pub not_true : (b : Bool) → not b ≡ true → b ≡ true → ⊥
not_true true h k = cc
not_true false h k = cc

pub true_not : (b : Bool) → (b ≡ true → ⊥) → not b ≡ true
true_not true h = absurd (h refl)
true_not false h = refl

-- a number that passes
pub some_below : (test : ℕ → Bool) (n : ℕ) → any_below test n ≡ true → (k : ℕ) × (k < n) × (test k ≡ true)
unfolding any_below
some_below test zero h = cc
some_below test (suc n) h = elim (or_split (test n) (any_below test n) h) [
  | inl here ↦ (n, omega arith, here)
  | inr below ↦ let found = some_below test n below in (found.0, omega arith, found.2)
]

pub below_some : (test : ℕ → Bool) (n k : ℕ) → k < n → test k ≡ true → any_below test n ≡ true
unfolding any_below
below_some test zero k h t = absurd (omega arith)
below_some test (suc n) k h t = elim (known (n == k)) [
  | inl e ↦ let is : n ≡ k = grind arith in or_first (test n) (any_below test n) (rw is t)
  | inr e ↦ let ne : k < n = grind arith in or_second (test n) (any_below test n) (below_some test n k ne t)
]

pub same_number : (a b : ℕ) → (a == b) ≡ true → a ≡ b
same_number a b h = grind arith

pub other_number : (a b : ℕ) → (a == b) ≡ false → a ≢ b
other_number a b h e = elim (known (a == b)) [ inl t ↦ cc | inr f ↦ (let t : (a == b) ≡ true = grind arith in cc) ]
