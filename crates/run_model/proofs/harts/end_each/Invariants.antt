use Rattle.run_model.proofs.Ending.{Ending}
use Rattle.run_model.proofs.harts.end_each.Given as goal

abbrev pub invariant-loop-number : goal.invariant-loop-number
invariant-loop-number l = Ending l.number l.fn.harts.items l.harts.items
