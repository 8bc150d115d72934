-- A test of each byte of a range.
use Rattle.std.proofs.Common.{arith, ◌≡◌, ◌≤◌, ◌<◌, ◌+◌, ◌-◌, ℕ, zero, suc, Bool, true, false, ◌&&◌, ◌⊎◌, inl, inr, refl, ◌∙◌, ap, sym, leb}
use Rattle.std.proofs.lemmas.Bool.{cases_lt, lt-leb, le-leb}
use Rattle.std.proofs.Math.Nat.{eq-or-lt_of_le}
use Rattle.bn_base.specs.Programs.{Program, may_load, may_store, is_writable, part_at}
use Rattle.system_calls.specs.Calls.{all_bytes}

and_true : (x y : Bool) → x ≡ true → y ≡ true → (x && y) ≡ true
and_true x y p q = ap (λ b. b && y) p ∙ q

and_false : (x y : Bool) → y ≡ false → (x && y) ≡ false
and_false true y q = q
and_false false y q = refl

pub all_true : (test : ℕ → Bool) (a n : ℕ) → ((b : ℕ) → a ≤ b → b < a + n → test b ≡ true) → all_bytes test a n ≡ true
all_true test a zero h = refl
all_true test a (suc n) h =
    and_true (test a) (all_bytes test (a + 1) n) (h a (omega arith) (omega arith)) (all_true test (a + 1) n (λ b low high. h b (omega (arith, low)) (omega (arith, high))))

pub all_false : (test : ℕ → Bool) (a n b : ℕ) → a ≤ b → b < a + n → test b ≡ false → all_bytes test a n ≡ false
all_false test a zero b low high e = absurd (omega (arith, low, high))
all_false test a (suc n) b low high e =
    step (eq-or-lt_of_le low) (λ less. all_false test (a + 1) n b (omega (arith, less)) (omega (arith, high)) e)
  where
    step : (a ≡ b) ⊎ (a < b) → (a < b → all_bytes test (a + 1) n ≡ false) → all_bytes test a (suc n) ≡ false
    step (inl same) later = ap (λ t. t && all_bytes test (a + 1) n) (ap test same ∙ e)
    step (inr less) later = and_false (test a) (all_bytes test (a + 1) n) (later less)

-- a range that isn't empty and begins in the mapped addresses is mapped if and only if its end is
pub all_mapped : (i : Program) (a n : ℕ) → 4096 ≤ a → 0 < n → leb (a + n) i.memory ≡ all_bytes (may_load i) a n
all_mapped i a n low some = at (cases_lt i.memory (a + n))
  where
    at : (i.memory < a + n) ⊎ (a + n ≤ i.memory) → leb (a + n) i.memory ≡ all_bytes (may_load i) a n
    at (inl past) = lt-leb (a + n) i.memory past ∙ sym (all_false (may_load i) a n (a + n - 1) (omega (arith, some)) (omega (arith, some)) (Prim.grind arith))
    at (inr in_it) = le-leb (a + n) i.memory in_it ∙ sym (all_true (may_load i) a n (λ b from to. Prim.grind arith))

pub not_mapped : (i : Program) (a n : ℕ) → a < 4096 → 0 < n → false ≡ all_bytes (may_load i) a n
not_mapped i a n low some = sym (all_false (may_load i) a n a (omega arith) (omega (arith, some)) (Prim.grind arith))

-- two tests of each byte
pub all_both : (p q : ℕ → Bool) (a n : ℕ) → (all_bytes p a n && all_bytes q a n) ≡ all_bytes (λ b. p b && q b) a n
all_both p q a zero = refl
all_both p q a (suc n) = four (p a) (q a) (all_bytes p (a + 1) n) (all_bytes q (a + 1) n) ∙ ap (λ t. (p a && q a) && t) (all_both p q (a + 1) n)
  where
    four : (x y z w : Bool) → ((x && z) && (y && w)) ≡ ((x && y) && (z && w))
    four true true z w = refl
    four true false false w = refl
    four true false true w = refl
    four false y z w = refl

-- bytes that aren't all mapped aren't all writable
pub not_stored : (i : Program) (a n : ℕ) → all_bytes (may_load i) a n ≡ false → all_bytes (may_store i) a n ≡ false
not_stored i a n e =
    let q : ℕ → Bool = λ b. is_writable (part_at i.parts b) in
    sym (all_both (may_load i) q a n) ∙ ap (λ t. t && all_bytes q a n) e
