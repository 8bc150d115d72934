-- The retained intervals of a hart, with the places of their Headers.
use Rattle.std.specs.Prelude.{ℕ, List, map, reverse}
use Rattle.std.specs.List.{AllByRecursion}
use Rattle.log_record.specs.declared.record.Record.{Record}
use Rattle.joint_replay.specs.declared.intervals.Retained.{Retained}
use Rattle.joint_replay.specs.Points.{IsThere}

-- the numbers of intervals, which are given latest first
abbrev pub numbers : List Retained → List ℕ
numbers rs = map (λ (r : Retained). r.number) (reverse rs)

-- each of these intervals of hart h is there, its Header at its place
abbrev pub AreThere : ℕ → List Record → List Retained → Type 0
AreThere h records rs = AllByRecursion (λ (r : Retained). IsThere h records r.number r.place) rs
