use Rattle.joint_replay.proofs.Common.{◌≡◌, ◌-◌, length, drop, points_below}
use Rattle.joint_replay.proofs.points.ordering_points.Given as goal

-- those that the last records name
abbrev pub invariant-loop-passed : goal.invariant-loop-passed
invariant-loop-passed l = l.points.keys ≡ points_below l.first l.hart (drop (length l.records - l.passed) l.records)
