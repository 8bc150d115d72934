use Rattle.joint_replay.proofs.Common.{◌≡◌, ◌++◌, drop, edges_into}
use Rattle.joint_replay.proofs.incoming_edges.IncomingEdges.gather.Given as goal

-- those before the place
abbrev pub invariant-loop-place : goal.invariant-loop-place
invariant-loop-place l = l.edges.items ++ edges_into l.hart (drop l.place l.records) ≡ edges_into l.hart l.records
