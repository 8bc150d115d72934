use Rattle.std.proofs.Common.{length}
use Rattle.demo_run.proofs.Counts.{Counting}
use Rattle.demo_run.proofs.counting.count_left.Given as goal

abbrev pub invariant-rows : goal.invariant-rows
invariant-rows l = Counting l.fn.replayer.left l.replayer.left l.count

-- the rows that are left
abbrev pub decreases-rows : goal.decreases-rows
decreases-rows l = length l.replayer.left.rows
