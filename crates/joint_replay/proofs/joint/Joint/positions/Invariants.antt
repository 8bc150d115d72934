use Rattle.joint_replay.proofs.Common.{◌≡◌, ◌++◌, drop, positions_from}
use Rattle.joint_replay.proofs.joint.Joint.positions.Given as goal

-- those of the harts before are found
abbrev pub invariant-loop-hart : goal.invariant-loop-hart
invariant-loop-hart l = l.found.items ++ positions_from l.hart (drop l.hart l.self.lanes) ≡ positions_from 0 l.self.lanes
