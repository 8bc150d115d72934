-- The Header that an interval begins with.
use Rattle.std.specs.Prelude.{ℕ, List, drop, Option, Some, None}
use Rattle.hart_replay.specs.Common.{HartState, Record}
use Rattle.hart_replay.specs.declared.header.IntervalStart.{IntervalStart}
use Rattle.hart_replay.specs.Replay.{Interval, interval_from, puts, nothing}

-- the interval that begins with a record, else the one that the later ones begin
abbrev pub started : Option (ℕ × HartState) → ℕ → List Record → Option Interval → Option Interval
started None h rs later = later
started (Some s) h rs later = Some (interval_from s.1 (puts h rs nothing))

-- the interval that begins there
abbrev pub found_in : Option IntervalStart → ℕ → List Record → Option Interval
found_in None h rs = None
found_in (Some s) h rs = Some (interval_from s.state (puts h (drop s.next rs) nothing))
