-- The ways of a set: which lines they list, in which order, and which of them a line is put into.
use Rattle.std.specs.Prelude.{ℕ, zero, suc, nat_lt, ◌==◌, ◌≡◌, ◌≢◌, ◌<◌, ◌≤◌, ◌⊎◌, Bool, true, false, not, ◌&&◌, List, [], ◌∷◌, ◌++◌, length, All, HoldsAt}
use Rattle.first_load_bits.specs.declared.way.Way.{Way}
use Rattle.first_load_bits.specs.Lines.{Line}

-- whether a way has line l; a way of age 0 is empty
abbrev pub has_line : ℕ → Way → Bool
has_line l w = not (w.age == 0) && (w.line == l)

-- the line of a way. Its mask counts only if the way was touched after the latest clear
abbrev pub line_in : ℕ → Way → Line
line_in generation w = record { number = w.line; bits = elim (nat_lt generation w.age) [ true ↦ w.mask | false ↦ 0 ] }

-- whether a way has another line than l
abbrev pub has_other : ℕ → Way → Bool
has_other l w = not (w.age == 0) && not (w.line == l)

-- the line that a way gives up if line l is put into it, if it has to give one up
abbrev pub given_up : ℕ → ℕ → Way → List Line
given_up generation l w = elim (has_other l w) [ true ↦ line_in generation w ∷ [] | false ↦ [] ]

-- the bits that are known of line l: those of a way, if it has the line, or else others
abbrev pub known_bits : ℕ → ℕ → ℕ → Way → ℕ
known_bits generation l others w = elim (has_line l w) [ true ↦ (line_in generation w).bits | false ↦ others ]

-- a way that no line was put into
abbrev pub empty_way : Way
empty_way = record { line = 0; mask = 0; age = 0 }

-- the lines of the ways of one age
abbrev pub of_age : ℕ → ℕ → List Way → List Line
of_age generation age [] = []
of_age generation age (w ∷ ws) = elim (w.age == age) [ true ↦ line_in generation w ∷ of_age generation age ws | false ↦ of_age generation age ws ]

-- the lines of the ways of the ages from n down to 1: the one touched latest comes first
abbrev pub latest_first : ℕ → ℕ → List Way → List Line
latest_first generation zero ws = []
latest_first generation (suc n) ws = of_age generation (suc n) ws ++ latest_first generation n ws

-- ways that aren't empty have ages and lines of their own
abbrev pub AreApart : Way → Way → Type 0
AreApart v w = 0 < v.age → 0 < w.age → (v.age ≢ w.age) × (v.line ≢ w.line)

-- the way at a place has line l
abbrev pub HasLine : ℕ → ℕ → List Way → Type 0
HasLine l at ws = (at < length ws) × HoldsAt (λ w. has_line l w ≡ true) ws at

-- no way is of a lower age than the one at a place
abbrev pub IsOldest : ℕ → List Way → Type 0
IsOldest at ws = (at < length ws) × HoldsAt (λ v. All (λ w. v.age ≤ w.age) ws) ws at

-- a place that line l is put into: it has the line, or no way has it and this one is of the lowest age
abbrev pub IsPlaceFor : ℕ → ℕ → List Way → Type 0
IsPlaceFor l at ws = HasLine l at ws ⊎ (All (λ w. has_line l w ≡ false) ws × IsOldest at ws)
