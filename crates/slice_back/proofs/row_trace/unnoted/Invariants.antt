use Rattle.std.proofs.Common.{◌≡◌, length}
use Rattle.slice_back.proofs.row_trace.unnoted.Given as goal

abbrev pub invariant-rest : goal.invariant-rest
invariant-rest l = l.replayer.left.outcome ≡ l.fn.replayer.left.outcome

-- the rows that are left
abbrev pub decreases-rest : goal.decreases-rest
decreases-rest l = length l.replayer.left.rows
