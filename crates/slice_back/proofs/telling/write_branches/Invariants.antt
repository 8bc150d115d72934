use Rattle.slice_back.proofs.Common.{◌≡◌, ◌++◌, drop, flat_map, branch_line}
use Rattle.slice_back.proofs.telling.write_branches.Given as goal

abbrev pub invariant-loop-row : goal.invariant-loop-row
invariant-loop-row l = l.text ++ flat_map branch_line (drop l.row-index l.rows) ≡ l.fn.text ++ flat_map branch_line l.rows
