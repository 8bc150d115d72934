-- The first loads of an interval.
use Rattle.std.specs.Prelude.{◌≡◌, ℕ, List, Option, Some, None}
use Rattle.hart_replay.specs.Replay.{Interval}

-- first loads are those of an interval, if the log keeps it
abbrev pub AreLoadsOf : Option Interval → List (ℕ × ℕ) → Type 0
AreLoadsOf None loads = Unit {0}
AreLoadsOf (Some v) loads = loads ≡ v.loads
