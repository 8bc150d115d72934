use Rattle.std.proofs.Common.{length}
use Rattle.slice_back.proofs.Traces.{TracedSoFar}
use Rattle.slice_back.proofs.row_trace.rows_up_to.Given as goal

abbrev pub invariant-rows : goal.invariant-rows
invariant-rows l = TracedSoFar l.fn.ic l.fn.loads l.fn.replayer.left l.replayer.left l.trace

-- the rows that are left
abbrev pub decreases-rows : goal.decreases-rows
decreases-rows l = length l.replayer.left.rows
