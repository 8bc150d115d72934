use Rattle.bus_core.proofs.Common.{◌≡◌, hart_in, any_live}
use Rattle.bus_core.proofs.ends.any_live.Given as goal

abbrev pub invariant-loop-number : goal.invariant-loop-number
invariant-loop-number l = l.found ≡ any_live l.number (hart_in l.harts.items)
