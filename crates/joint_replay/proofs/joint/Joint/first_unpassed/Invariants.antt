use Rattle.joint_replay.proofs.Common.{take, ArePassed}
use Rattle.joint_replay.proofs.joint.Joint.first_unpassed.Given as goal

-- the sources before the place are passed
abbrev pub invariant-loop-place : goal.invariant-loop-place
invariant-loop-place l = ArePassed l.self.lanes (take l.place l.sources)
