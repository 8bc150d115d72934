use Rattle.log_commands.proofs.Common.{steps_left}
use Rattle.log_commands.proofs.Joins.{Walks}
use Rattle.log_commands.proofs.commands.joint.send_run.Given as goal

abbrev pub invariant-steps : goal.invariant-steps
invariant-steps g l = Walks l.fn.joint l.joint l.text (g.O.Sink.stream l.fn.out).text (g.O.Sink.stream l.out).text (g.O.Sink.stream l.fn.out).faults (g.O.Sink.stream l.out).faults

-- the steps that are left
abbrev pub decreases-steps : goal.decreases-steps
decreases-steps g l = steps_left l.joint.lanes
