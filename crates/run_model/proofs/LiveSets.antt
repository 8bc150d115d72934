-- Sets of harts, one bit for each.
use Rattle.run_model.proofs.Common.{◌≡◌, ◌≢◌, ℕ, zero, suc, refl, ap₂, ◌+◌, ◌*◌, ◌^◌, ◌%◌, ◌<◌, ◌==◌, Bool, true, false, ◌&&◌, bit_or, ap, arith, pow-suc, shl_exact, eq-eqb, or_lt, has_bit, all_below}
use Rattle.std.specs.Int.{bit_at}
use Rattle.std.proofs.lemmas.Nat.Bits.{bit_at_or, bit_at-pow_same, bit_at-pow_other, bit_at-lt, bit_at_above}

-- a set of harts below n hasn't hart n
pub has_none : (set n : ℕ) → set < 2 ^ n → has_bit set n ≡ false
has_none set n low = ap (λ b. b == 1) (bit_at_above set n n low (omega arith))

pub has_own : (set n : ℕ) → has_bit (bit_or set (2 ^ n)) n ≡ true
has_own set n = eq-eqb (bit_at (bit_or set (2 ^ n)) n) 1 (omega (arith, bit_at_or set (2 ^ n) n, bit_at-pow_same n, bit_at-lt set n))

pub has_other : (set n k : ℕ) → k ≢ n → has_bit (bit_or set (2 ^ n)) k ≡ has_bit set k
has_other set n k apart =
    let e : bit_at (bit_or set (2 ^ n)) k ≡ bit_at set k = omega (arith, bit_at_or set (2 ^ n) k, bit_at-pow_other n k apart) in
    ap (λ b. b == 1) e

pub one_more : (n : ℕ) → 2 ^ (n + 1) ≡ 2 ^ n + 2 ^ n
one_more n = let e : 2 ^ (n + 1) ≡ 2 ^ suc n = ap (λ m. 2 ^ m) (omega arith) in omega (arith, e, pow-suc 2 n)

pub set_below : (set n : ℕ) → set < 2 ^ n → bit_or set (2 ^ n) < 2 ^ (n + 1)
set_below set n low = or_lt (n + 1) set (2 ^ n) (omega (arith, low, one_more n)) (omega (arith, low, one_more n))

-- the one bit of hart n
pub bit_of : (n : ℕ) → n < 16 → 1 * 2 ^ n % 65536 ≡ 2 ^ n
bit_of n low = let e = shl_exact {a = 1} 1 n 16 (omega arith) (omega (arith, low)) in omega (arith, e)

-- tests that agree below n pass there alike
pub same_below : (f g : ℕ → Bool) (n : ℕ) → ((k : ℕ) → k < n → f k ≡ g k) → all_below f n ≡ all_below g n
unfolding all_below
same_below f g zero same = refl
same_below f g (suc n) same = ap₂ (λ a b. a && b) (same_below f g n (λ k low. same k (omega (arith, low)))) (same n (omega arith))
