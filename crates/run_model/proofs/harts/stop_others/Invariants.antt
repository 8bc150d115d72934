use Rattle.run_model.proofs.Common.{◌≡◌, ◌≤◌, ◌+◌, ◌++◌, ℕ, List, length, Record, Log, Hart, AreHarts, stopped_below, stop_records, taken, IsLog}
use Rattle.run_model.proofs.harts.stop_others.Given as goal

-- the harts so far were stopped
pub record Stopping (own number : ℕ) (before after : List Hart) (old new : Log) : Type 0 where
  pub len : length after ≡ length before
  pub harts : (f : ℕ → Hart) → AreHarts before f → AreHarts after (stopped_below own number f)
  pub holds : (f : ℕ → Hart) (rs : List Record) → AreHarts before f → IsLog old rs → IsLog new (rs ++ stop_records own number f)
  pub took : taken new.ring ≤ taken old.ring + number
  pub size : new.ring.size ≡ old.ring.size

abbrev pub invariant-loop-number : goal.invariant-loop-number
invariant-loop-number l = Stopping l.own l.number l.fn.harts.items l.harts.items l.fn.log l.log
