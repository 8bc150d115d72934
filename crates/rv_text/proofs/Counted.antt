-- The text of a count in parts: what comes before its last two digits, and these.
use Rattle.std.proofs.Common.{◌≡◌, ◌==◌, ℕ, zero, suc, false, List, ◌++◌, sym, ◌+◌, ◌/◌, ◌%◌, ◌^◌, ◌<◌, ◌≤◌, [], ◌∷◌, ◌∙◌, ap, append_assoc, arith}
use Rattle.std.specs.Prelude.{codes, decimal}
use Rattle.std.proofs.lemmas.Fmt.{decimal_step}
use Rattle.rv_text.specs.Lines.{count_text, HasDigits}

-- a number's last two digits, if they come from the rest of a division by 100
digits : (a b r : ℕ) (front : List ℕ) → r / 10 ≡ a → r % 10 ≡ b → front ++ ((48 + a) ∷ (48 + b) ∷ []) ≡ front ++ ((48 + r / 10) ∷ (48 + r % 10) ∷ [])
digits a b r front e d = ap (λ (x : ℕ). front ++ ((48 + x) ∷ (48 + b) ∷ [])) (sym e) ∙ ap (λ (x : ℕ). front ++ ((48 + r / 10) ∷ (48 + x) ∷ [])) (sym d)

-- A number and its last two digits.
two_steps : (n : ℕ) → 100 ≤ n → n < 2 ^ 64 → decimal n ≡ decimal (n / 100) ++ ((48 + n % 100 / 10) ∷ (48 + n % 100 % 10) ∷ [])
two_steps n low high =
    decimal_step n (omega (arith, low)) high
    ∙ ap (λ (t : List ℕ). t ++ ((48 + n % 10) ∷ [])) (decimal_step (n / 10) (omega (arith, low)) (omega (arith, high)))
    ∙ append_assoc (decimal (n / 10 / 10)) ((48 + n / 10 % 10) ∷ []) ((48 + n % 10) ∷ [])
    ∙ ap (λ (m : ℕ). decimal m ++ ((48 + n / 10 % 10) ∷ (48 + n % 10) ∷ [])) (hundreds n)
    ∙ digits (n / 10 % 10) (n % 10) (n % 100) (decimal (n / 100)) (tens n) (ones n)
  where
    hundreds : (m : ℕ) → m / 10 / 10 ≡ m / 100
    hundreds m = omega arith

    tens : (m : ℕ) → m % 100 / 10 ≡ m / 10 % 10
    tens m = omega arith

    ones : (m : ℕ) → m % 100 % 10 ≡ m % 10
    ones m = omega arith

-- A count and its last two digits.
pub count-step : (hart ic : ℕ) → 100 ≤ ic → ic < 2 ^ 64 → count_text hart ic ≡ count_text hart (ic / 100) ++ ((48 + ic % 100 / 10) ∷ (48 + ic % 100 % 10) ∷ [])
unfolding count_text
count-step hart ic low high =
    ap (λ (t : List ℕ). decimal hart ++ codes " " ++ t) (two_steps ic low high)
    ∙ sym (append_assoc (decimal hart ++ codes " ") (decimal (ic / 100)) ((48 + ic % 100 / 10) ∷ (48 + ic % 100 % 10) ∷ []))

pub not_zero : (n : ℕ) → (n == 0) ≡ false → 0 < n
not_zero zero e = absurd cc
not_zero (suc n) e = omega arith

-- the text of a count by its digits
pub counted : (hart hundreds ic tens ones : ℕ) → 100 ≤ ic → ic < 2 ^ 64 → HasDigits hundreds ic tens ones → count_text hart hundreds ++ (tens ∷ ones ∷ []) ≡ count_text hart ic
counted hart hundreds ic tens ones low high d =
    ap (λ (n : ℕ). count_text hart n ++ (tens ∷ ones ∷ [])) (omega (arith, d.is, d.tens_low, d.tens_high, d.ones_low, d.ones_high))
    ∙ ap (λ (n : ℕ). count_text hart (ic / 100) ++ (n ∷ ones ∷ [])) tens_are
    ∙ ap (λ (n : ℕ). count_text hart (ic / 100) ++ ((48 + ic % 100 / 10) ∷ n ∷ [])) ones_are
    ∙ sym (count-step hart ic low high)
  where
    tens_are : tens ≡ 48 + ic % 100 / 10
    tens_are = omega (arith, d.is, d.tens_low, d.tens_high, d.ones_low, d.ones_high)

    ones_are : ones ≡ 48 + ic % 100 % 10
    ones_are = omega (arith, d.is, d.tens_low, d.tens_high, d.ones_low, d.ones_high)
