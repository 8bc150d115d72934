use Rattle.joint_replay.proofs.Common.{drop, sources_into}
use Rattle.joint_replay.proofs.Waiting.{IsLeft}
use Rattle.joint_replay.proofs.joint.Joint.waits.Given as goal

abbrev pub invariant-loop-place : goal.invariant-loop-place
invariant-loop-place l = IsLeft l.self.lanes l.ic (sources_into l.self.records l.hart l.ic) (drop l.place l.sources)
