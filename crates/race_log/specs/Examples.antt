-- Small runs whose edges are worked out by hand.
use Rattle.std.specs.Prelude.{ℕ, true, false, List, [], ◌∷◌}
use Rattle.race_log.specs.Points.{Point, Access}

-- an access that reads the word
abbrev pub reads : ℕ → Access
reads word = record { word = word; writes = false }

-- an access that writes the word
abbrev pub writes : ℕ → Access
writes word = record { word = word; writes = true }

-- the hart's point at the count, in that turn
abbrev pub point : ℕ → ℕ → ℕ → List Access → Point
point hart count turn accesses = record { hart = hart; count = count; turn = turn; accesses = accesses }

-- hart 0 loads a word twice, and between the loads hart 1 stores the next word; then both exit
unfoldable pub neighbours : List Point
neighbours =
    point 0 2 0 (reads 131072 ∷ []) ∷ point 1 2 1 (writes 131076 ∷ []) ∷ point 0 3 2 (reads 131072 ∷ [])
    ∷ point 0 5 3 [] ∷ point 1 4 4 [] ∷ []

-- hart 0 reserves a word, hart 1 stores it, hart 0's conditional store fails; then both exit
unfoldable pub failed_conditional : List Point
failed_conditional =
    point 0 2 0 (reads 131072 ∷ []) ∷ point 1 2 1 (writes 131072 ∷ []) ∷ point 0 3 2 []
    ∷ point 0 5 3 [] ∷ point 1 4 4 [] ∷ []

-- hart 0 loads a word, hart 1's read call fills it, hart 0 loads it again; then both exit
unfoldable pub filled_word : List Point
filled_word =
    point 0 2 0 (reads 131072 ∷ []) ∷ point 1 6 1 (writes 131072 ∷ []) ∷ point 0 3 2 (reads 131072 ∷ [])
    ∷ point 0 5 3 [] ∷ point 1 8 4 [] ∷ []

-- hart 0 stores a word, hart 1 loads it and stores another, hart 2 loads the other and then the first; then all exit
unfoldable pub relay : List Point
relay =
    point 0 4 0 (writes 131072 ∷ []) ∷ point 1 3 1 (reads 131072 ∷ []) ∷ point 1 4 2 (writes 131076 ∷ [])
    ∷ point 2 4 3 (reads 131076 ∷ []) ∷ point 2 5 4 (reads 131072 ∷ [])
    ∷ point 0 7 5 [] ∷ point 1 7 6 [] ∷ point 2 7 7 [] ∷ []

-- harts 0 and 1 load a word
unfoldable pub two_loads : List Point
two_loads = point 0 0 0 (reads 131072 ∷ []) ∷ point 1 0 1 (reads 131072 ∷ []) ∷ []

-- harts 0 and 1 load a word, then hart 2 stores it
unfoldable pub two_readers : List Point
two_readers = point 0 0 0 (reads 131072 ∷ []) ∷ point 1 0 1 (reads 131072 ∷ []) ∷ point 2 0 2 (writes 131072 ∷ []) ∷ []

-- hart 0 stores two words, hart 1 loads the first and then the second
unfoldable pub two_words : List Point
two_words =
    point 0 0 0 (writes 131072 ∷ []) ∷ point 0 1 1 (writes 131076 ∷ [])
    ∷ point 1 0 2 (reads 131072 ∷ []) ∷ point 1 1 3 (reads 131076 ∷ []) ∷ []
