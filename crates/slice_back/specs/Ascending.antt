-- The lists of a slice ascend.
use Rattle.std.specs.Prelude.{◌≡◌, ℕ, ◌+◌, ◌<◌, ◌≤◌, ◌^◌, List, [], ◌∷◌, map, Some, Ok}
use Rattle.slice_back.specs.Common.{Program, Record, Interval, interval_of}
use Rattle.slice_back.specs.declared.lists.Slice.{Slice}
use Rattle.slice_back.specs.Slices.{sliced}

-- numbers from a low one on, each above the one before it; so none is there twice
abbrev pub AreRising : ℕ → List ℕ → Type 0
AreRising low [] = Unit {0}
AreRising low (k ∷ ks) = (low ≤ k) × AreRising (k + 1) ks

-- the rows, the words and the branches by their counts, and the registers by their numbers
pub record Ascends (s : Slice) : Type 0 where
  pub rows : AreRising 0 (map (λ r. r.ic) s.rows)
  pub regs : AreRising 0 (map (λ r. r.0) s.regs)
  pub words : AreRising 0 (map (λ w. w.0) s.words)
  pub branches : AreRising 0 (map (λ r. r.ic) s.branches)

-- each slice of an interval whose End's count is below 2 ^ 64 ascends
abbrev pub SlicesAscend : Type 0
SlicesAscend = (i : Program) (records : List Record) (h c ic : ℕ) (s : Slice) → ((v : Interval) → interval_of h c records ≡ Some v → v.mark.ic < 2 ^ 64)
    → sliced i records h c ic ≡ Ok s → Ascends s
