-- Commands that others begin.
use Rattle.step_debugger.proofs.Common.{◌≡◌, ℕ, ◌+◌, Bool, true, false, List, [], ◌∷◌, ◌++◌, length, nat_lt, Option, Some, None, refl, DebugError, LineTooLong, TooMuch, Input, input_limit, is_line_feed, is_too_long, ends_in, with_line, input_from, RefusalsStay}

no_error : (e : DebugError) → ◌≡◌ {A = Option DebugError} (Some e) None → ⊥
no_error e is = cc

-- what a byte and more bytes hold, by the tests of the byte
abbrev pub next : (count : ℕ) (line : List ℕ) (byte : ℕ) → (over room feed : Bool) → List ℕ → Input
next count line byte over room feed rest = elim over as (λ y. Input) [
  | true ↦ ends_in line (Some (LineTooLong (length line + 1)))
  | false ↦ elim room as (λ y. Input) [
    | false ↦ ends_in line (Some (TooMuch (count + 1)))
    | true ↦ elim feed as (λ y. Input) [ true ↦ with_line line (input_from (count + 1) [] rest) | false ↦ input_from (count + 1) (line ++ byte ∷ []) rest ]
  ]
]

from : (bytes more : List ℕ) (count : ℕ) (line : List ℕ) → (input_from count line (bytes ++ more)).refused ≡ None → (input_from count line bytes).refused ≡ None
from [] more count line e = refl
from (byte ∷ bytes) more count line e =
    by (is_too_long line byte) (nat_lt count input_limit) (is_line_feed byte) (λ l f. from bytes more (count + 1) l f) e
  where
    by : (over room feed : Bool) → ((l : List ℕ) → (input_from (count + 1) l (bytes ++ more)).refused ≡ None → (input_from (count + 1) l bytes).refused ≡ None)
        → (next count line byte over room feed (bytes ++ more)).refused ≡ None → (next count line byte over room feed bytes).refused ≡ None
    by true room feed rest e = absurd (no_error (LineTooLong (length line + 1)) e)
    by false false feed rest e = absurd (no_error (TooMuch (count + 1)) e)
    by false true true rest e = rest [] e
    by false true false rest e = rest (line ++ byte ∷ []) e

pub refusals_stay : RefusalsStay
refusals_stay bytes more e = from bytes more 0 [] e
