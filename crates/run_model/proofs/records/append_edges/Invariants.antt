use Rattle.run_model.proofs.Common.{◌++◌, List, take, Record, edges_from, Took, IsLog}
use Rattle.run_model.proofs.records.append_edges.Given as goal

-- the Edges of the sources so far were appended
abbrev pub invariant-loop-i : goal.invariant-loop-i
invariant-loop-i l = Took l.fn.log l.i l.log × ((rs : List Record) → IsLog l.fn.log rs → IsLog l.log (rs ++ edges_from l.hart l.ic (take l.i l.edges)))
