use Rattle.std.proofs.Common.{◌-◌}
use Rattle.joint_replay.proofs.Retaining.{Gathered}
use Rattle.joint_replay.proofs.intervals.retained_intervals.Given as goal

abbrev pub invariant-loop-passed : goal.invariant-loop-passed
invariant-loop-passed l = Gathered l.hart l.log.records (l.count - l.passed) l.found.items
