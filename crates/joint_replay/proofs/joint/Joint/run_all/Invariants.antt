use Rattle.joint_replay.specs.Joining.{steps_left}
use Rattle.joint_replay.proofs.Telling.{Stands}
use Rattle.joint_replay.proofs.joint.Joint.run_all.Given as goal

-- the text so far is that of the steps so far
abbrev pub invariant-steps : goal.invariant-steps
invariant-steps l = Stands l.fn.self l.self l.fn.out l.out

-- the steps that are left
abbrev pub decreases-steps : goal.decreases-steps
decreases-steps l = steps_left l.self.lanes
