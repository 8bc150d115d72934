use Rattle.run_model.proofs.Common.{sym, subst, TurnEnd, AreCaches, events_after}
use Rattle.run_model.proofs.trace.Trace.begin.Goals as goal

pub returns-in-NewInterval-clause-caches : goal.returns-in-NewInterval-clause-caches
returns-in-NewInterval-clause-caches c s call span events are =
    subst (λ (n : TurnEnd). AreCaches s c.clear.new.self (events_after n c.args.hart call span events)) (sym c.in-NewInterval.is)
    (c.clear.ensures.interval s call span events c.in-NewInterval.reason c.in-NewInterval.value are)
