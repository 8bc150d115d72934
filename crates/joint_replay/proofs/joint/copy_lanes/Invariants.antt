use Rattle.std.proofs.Common.{◌≡◌, take}
use Rattle.joint_replay.proofs.joint.copy_lanes.Given as goal

-- the harts before are copied
abbrev pub invariant-loop-hart : goal.invariant-loop-hart
invariant-loop-hart l = l.copies.items ≡ take l.hart l.lanes.items
