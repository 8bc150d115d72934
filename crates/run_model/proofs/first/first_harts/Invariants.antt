use Rattle.run_model.specs.Represents.First.{AreFirst}
use Rattle.run_model.proofs.first.first_harts.Given as goal

-- the harts so far were made
abbrev pub invariant-loop-number : goal.invariant-loop-number
invariant-loop-number l = AreFirst l.settings l.image l.number l.fn.log l.harts.items l.log
