use Rattle.log_commands.proofs.Common.{drop, ◌++◌, list_text}
use Rattle.log_commands.proofs.Prints.{SoFar}
use Rattle.log_commands.proofs.commands.list.send_list.Given as goal

abbrev pub invariant-loop-place : goal.invariant-loop-place
invariant-loop-place g l = SoFar (list_text l.records) (l.text ++ list_text (drop l.place l.records)) (g.O.Sink.stream l.fn.out).text (g.O.Sink.stream l.out).text (g.O.Sink.stream l.fn.out).faults (g.O.Sink.stream l.out).faults
