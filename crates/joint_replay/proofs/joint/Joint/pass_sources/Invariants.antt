use Rattle.std.proofs.Common.{◌≡◌}
use Rattle.joint_replay.proofs.joint.Joint.pass_sources.Given as goal

-- the replay doesn't change
abbrev pub invariant-loop-hart : goal.invariant-loop-hart
invariant-loop-hart l = l.self ≡ l.fn.self
