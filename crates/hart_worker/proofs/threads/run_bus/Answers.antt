use Rattle.hart_worker.proofs.Common.{sym, subst, began_of, AreWorked}
use Rattle.hart_worker.proofs.threads.run_bus.Goals as goal

pub settle-requires-clause-each : goal.settle-requires-clause-each
settle-requires-clause-each g c = subst (λ ws. AreWorked (began_of c.args.from.now) ws) (sym c.deref.ensures.value) c.in_ok-worked.ensures.each
