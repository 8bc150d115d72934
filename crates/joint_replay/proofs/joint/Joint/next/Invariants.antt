use Rattle.joint_replay.proofs.Common.{◌≡◌, drop, choice, choice_from}
use Rattle.joint_replay.proofs.joint.Joint.next.Given as goal

-- none of the harts before is ready
abbrev pub invariant-loop-hart : goal.invariant-loop-hart
invariant-loop-hart l = choice_from l.self.records l.self.lanes l.hart (drop l.hart l.self.lanes) l.waiting ≡ choice l.self
