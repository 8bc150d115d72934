-- Numbers read digit after digit.
use Rattle.step_debugger.proofs.Common.{◌≡◌, ℕ, suc, ◌+◌, ◌*◌, ◌^◌, ◌<◌, ◌≤◌, refl, sym, ap, ◌∙◌, arith, List, ◌∷◌, length, Option, Some, None, pow-suc, digit_in, sum_of, placed, number_in}
use Rattle.std.proofs.lemmas.Grind.{pow_more}
use Rattle.std.proofs.Math.Nat.{pow-le-pow_right}

-- a number whose first digits spell this, and the others are these
abbrev pub more : ℕ → ℕ → List ℕ → Option ℕ
more base number rest = sum_of (Some (number * base ^ length rest)) (number_in base rest)

-- one digit further
shifted : (base number digit power rest : ℕ) → number * (power * base) + (digit * power + rest) ≡ (number * base + digit) * power + rest
shifted base number digit power rest = grind arith

pub one_more : (base number digit byte : ℕ) (rest : List ℕ) → Some digit ≡ digit_in base byte → more base number (byte ∷ rest) ≡ more base (number * base + digit) rest
one_more base number digit byte rest e = ap (λ (o : Option ℕ). sum_of (Some (number * base ^ suc (length rest))) (sum_of (placed base (length rest) o) (number_in base rest))) (sym e) ∙ by (number_in base rest)
  where
    by : (o : Option ℕ) → sum_of (Some (number * base ^ suc (length rest))) (sum_of (Some (digit * base ^ length rest)) o) ≡ sum_of (Some ((number * base + digit) * base ^ length rest)) o
    by None = refl
    by (Some n) = ap Some (ap (λ p. number * p + (digit * base ^ length rest + n)) (pow-suc base (length rest)) ∙ shifted base number digit (base ^ length rest) n)

-- it stays small
pub bounded : (base number digit place : ℕ) → base ≤ 16 → place < 8 → digit < base → number < 16 ^ place → number * base + digit < 16 ^ (place + 1)
bounded base number digit place low short d h =
    let up : 16 ^ (place + 1) ≡ 16 ^ place * 16 = pow_more 16 place in
    omega (arith, up, product number (16 ^ place) base 16 h low, d)
  where
    product : (m n a b : ℕ) → m < n → a ≤ b → m * a + a ≤ n * b
    product m n a b h low = grind arith

-- seven hexadecimal digits
pub seven : (number place : ℕ) → place < 8 → number < 16 ^ place → number < 16 ^ 7
seven number place short h = omega (arith, h, pow-le-pow_right {n = 16} (omega arith) {i = place} {j = 7} (omega (arith, short)))

pub eight : (number place : ℕ) → place ≤ 8 → number < 16 ^ place → number < 2 ^ 32
eight number place short h = omega (arith, h, pow-le-pow_right {n = 16} (omega arith) {i = place} {j = 8} short)

pub product_fits : (base number digit : ℕ) → base ≤ 16 → digit < base → number < 16 ^ 7 → number * base + digit < 2 ^ 64
product_fits base number digit low d h = omega (arith, bounded base number digit 7 low (omega arith) d h)
