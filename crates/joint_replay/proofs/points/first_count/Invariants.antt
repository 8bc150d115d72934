use Rattle.joint_replay.proofs.Common.{◌≡◌, drop, first_count}
use Rattle.joint_replay.proofs.points.first_count.Given as goal

-- no Header of the hart stands before the place
abbrev pub invariant-loop-place : goal.invariant-loop-place
invariant-loop-place l = first_count l.hart (drop l.place l.records) ≡ first_count l.hart l.records
