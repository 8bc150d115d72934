-- The calls of an object in memory, and which of them are to fail.
use Rattle.std.specs.Prelude.{ℕ, List}
use Rattle.std.specs.List.{Contains}
use Rattle.bn_outside.specs.Counts.{counted}

-- the numbers of the calls that are to fail, and how many calls were made
pub record Calls : Type 0 where
  pub failing : List ℕ
  pub made : ℕ

-- before the first call
abbrev pub fresh_calls : List ℕ → Calls
fresh_calls failing = record { failing = failing; made = 0 }

-- the number of the next call: the first one is 1, and the last count is the number of all from there on
abbrev pub next_call : Calls → ℕ
next_call calls = counted calls.made

-- the next call is to fail
abbrev pub NextFails : Calls → Type 0
NextFails calls = Contains calls.failing (next_call calls)

-- after one more call
abbrev pub after_call : Calls → Calls
after_call calls = record { failing = calls.failing; made = next_call calls }
