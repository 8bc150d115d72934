-- Laws of numbers in bytes, by their names: a proof elsewhere takes them under these.
use Rattle.std.specs.Prelude.{ℕ, ◌≡◌, ◌<◌, ◌≤◌, ◌+◌, ◌^◌, List, ◌++◌, length, drop}
use Rattle.le_numbers.specs.Numbers.{number_at, number_bytes, AreBytes}

-- a number has as many bytes as its width says
abbrev pub HaveTheirWidth : Type 0
HaveTheirWidth = (width n : ℕ) → length (number_bytes width n) ≡ width

-- if a number's bytes are at a place, the number is read there, and what follows comes after it
abbrev pub AreRead : Type 0
AreRead = (width at n : ℕ) (bytes rest : List ℕ) → n < 256 ^ width → drop at bytes ≡ number_bytes width n ++ rest → (number_at width at bytes ≡ n) × (drop (at + width) bytes ≡ rest)

-- bytes continue at a place with the bytes of the number that is read there
abbrev pub AreWritten : Type 0
AreWritten = (width at : ℕ) (bytes : List ℕ) → AreBytes bytes → at + width ≤ length bytes → drop at bytes ≡ number_bytes width (number_at width at bytes) ++ drop (at + width) bytes

-- a number that is read fits its width
abbrev pub Fit : Type 0
Fit = (width at : ℕ) (bytes : List ℕ) → AreBytes bytes → number_at width at bytes < 256 ^ width
