-- The interval of a log that is replayed.
use Rattle.std.specs.Prelude.{◌≡◌, Some, None}
use Rattle.log_commands.specs.Common.{EndMark, Replaying, Interval, interval_of, replayed, NoInterval}
use Rattle.log_commands.specs.declared.answer.IntervalToReplay.{IntervalToReplay}
use Rattle.log_commands.specs.declared.refusal.Refusal.{Refusal}
use Rattle.log_commands.specs.declared.refusal.Refusal.TheVariants.{ReplayStopped}

-- a refusal since the log has no such interval
abbrev pub IsAbsent : IntervalToReplay → Refusal → Type 0
IsAbsent reading refusal =
    (refusal ≡ ReplayStopped (NoInterval reading.hart reading.interval)) × (interval_of reading.hart reading.interval reading.log.records ≡ None)

-- a replay before its first row, and the mark of its interval
pub record IsBegun (reading : IntervalToReplay) (r : Replaying) (mark : EndMark) : Type 0 where
  pub interval : Interval
  pub found : interval_of reading.hart reading.interval reading.log.records ≡ Some interval
  pub state : r.state ≡ interval.start
  pub left : r.left ≡ replayed reading.image reading.log.records reading.hart reading.interval
  pub mark_is : mark ≡ interval.mark
