-- Which registers hold words.
use Rattle.std.specs.Prelude.{ℕ, ◌<◌, ◌^◌, List, slice_index}

-- the contents of each register are a word of 32 bits, as a number below 2 ^ 32
abbrev pub AreWords : List ℕ → Type 0
AreWords x = (r : ℕ) → slice_index x r < 2 ^ 32
