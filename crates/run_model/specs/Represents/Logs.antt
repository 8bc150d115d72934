-- A log that takes records, and the ones that it takes.
use Rattle.std.specs.Prelude.{◌≡◌, ℕ, ◌+◌, List, Bool, true}
use Rattle.run_model.specs.Common.{Record, is_mark, total, HoldsLog}
pub use Rattle.run_model.specs.Represents.Taken.{taken}
use Rattle.run_model.specs.declared.log.Log.{Log}
use Rattle.run_model.specs.declared.turn_end.TurnEnd.{TurnEnd}
use Rattle.run_model.specs.declared.turn_end.TurnEnd.TheVariants.{GoesOn, NewInterval, HartOver, RunOver}
use Rattle.run_model.specs.Turn.{mark}

-- a log that took these records: its ring keeps what has room of them, and it counts the bytes of all
pub record IsLog (log : Log) (rs : List Record) : Type 0 where
  pub holds : HoldsLog log.ring rs
  pub bytes : log.bytes ≡ total rs

-- from one to the other a log took so many records
pub record Took (old : Log) (count : ℕ) (new : Log) : Type 0 where
  pub size : new.ring.size ≡ old.ring.size
  pub count_is : taken new.ring ≡ taken old.ring + count

-- a log of format 2 has marks of the reason and value with which an interval ends
abbrev pub is_marked_next : TurnEnd → Bool
is_marked_next GoesOn = true
is_marked_next (NewInterval reason value) = is_mark 2 (mark 0 reason value)
is_marked_next (HartOver reason value) = is_mark 2 (mark 0 reason value)
is_marked_next (RunOver reason value) = is_mark 2 (mark 0 reason value)
