use Rattle.run_model.proofs.NewCaches.{AreNew}
use Rattle.run_model.proofs.caches.Caches.new.Given as goal

abbrev pub invariant-loop : goal.invariant-loop
invariant-loop l = AreNew l.settings l.counter l.of.items
