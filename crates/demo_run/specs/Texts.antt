-- The text of a demonstration, by what is counted of it.
use Rattle.std.specs.Prelude.{ℕ, List, ◌++◌, codes, decimal}
use Rattle.hex.specs.Hex.{encode_lower}
use Rattle.demo_run.specs.declared.figures.Figures.{Figures}

-- a number after a word
unfoldable pub counted : List ℕ → ℕ → List ℕ
counted word n = word ++ decimal n

-- a line of two numbers, each after a word, or the end of one
unfoldable pub two_counts : (first : List ℕ) → ℕ → (second : List ℕ) → ℕ → List ℕ
two_counts first a second b = counted first a ++ counted second b ++ codes "\n"

-- ---- the five lines

-- the line of the seed
unfoldable pub seed_line : Figures → List ℕ
seed_line f = counted (codes "seed ") f.seed ++ codes "\n"

-- the line of the turns, and of the instructions that they did
unfoldable pub turns_line : Figures → List ℕ
turns_line f = two_counts (codes "turns ") f.turns (codes " instructions ") f.instructions

-- the line of the kept records, how many were dropped, and the bytes of the kept ones
unfoldable pub records_line : Figures → List ℕ
records_line f = counted (codes "records ") f.records ++ two_counts (codes " dropped ") f.dropped (codes " bytes ") f.bytes

-- the line of the kept intervals, and of the rows of their replays
unfoldable pub intervals_line : Figures → List ℕ
intervals_line f = two_counts (codes "intervals ") f.intervals (codes " rows ") f.rows

-- the digest in hexadecimal
unfoldable pub memory_line : Figures → List ℕ
memory_line f = counted (codes "memory ") f.words ++ codes " words " ++ encode_lower f.digest ++ codes "\n"

-- the five lines
unfoldable pub figures_text : Figures → List ℕ
figures_text f = seed_line f ++ turns_line f ++ records_line f ++ intervals_line f ++ memory_line f
