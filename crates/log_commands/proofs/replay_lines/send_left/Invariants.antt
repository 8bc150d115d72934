use Rattle.log_commands.proofs.Common.{length}
use Rattle.log_commands.proofs.Rows.{RowsSoFar}
use Rattle.log_commands.proofs.replay_lines.send_left.Given as goal

abbrev pub invariant-rows : goal.invariant-rows
invariant-rows g l = RowsSoFar l.fn.replayer.left l.replayer.left l.text (g.O.Sink.stream l.fn.out).text (g.O.Sink.stream l.out).text (g.O.Sink.stream l.fn.out).faults (g.O.Sink.stream l.out).faults

-- the rows that are left
abbrev pub decreases-rows : goal.decreases-rows
decreases-rows g l = length l.replayer.left.rows
