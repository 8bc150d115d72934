use Rattle.joint_replay.specs.Together.{AreBegun}
use Rattle.joint_replay.proofs.joint.all_lanes.Given as goal

-- the harts below this one
abbrev pub invariant-loop-hart : goal.invariant-loop-hart
invariant-loop-hart l = AreBegun l.image l.log.records l.hart l.lanes.items
