use Rattle.joint_replay.specs.Joining.{steps_left}
use Rattle.demo_run.proofs.Joins.{Walks}
use Rattle.demo_run.proofs.joining.go_through.Given as goal

abbrev pub invariant-steps : goal.invariant-steps
invariant-steps l = Walks l.fn.joint l.joint

-- the steps that are left
abbrev pub decreases-steps : goal.decreases-steps
decreases-steps l = steps_left l.joint.lanes
