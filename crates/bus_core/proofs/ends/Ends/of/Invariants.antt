use Rattle.bus_core.proofs.Marks.{AreMarked}
use Rattle.bus_core.proofs.ends.Ends.of.Given as goal

abbrev pub invariant-loop-hart : goal.invariant-loop-hart
invariant-loop-hart l = AreMarked l.hart-index l.hart-items l.marks
