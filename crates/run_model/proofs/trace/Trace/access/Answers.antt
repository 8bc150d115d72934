use Rattle.run_model.proofs.Common.{subst, Option, GoesOn, Span, AreCaches, events_after, IsNoted}
use Rattle.run_model.proofs.trace.Trace.access.Goals as goal

pub returns-clause-caches : goal.returns-clause-caches
returns-clause-caches c s events are =
    subst (λ (x : Option Span). AreCaches s c.take-touched.new.self (events_after GoesOn c.args.hart c.args.call x events)) c.of-span.ensures (c.take-touched.ensures.stands s events are)

pub returns-clause-noted : goal.returns-clause-noted
returns-clause-noted c =
    subst (λ (x : Option Span). IsNoted c.args.self.now.shadow c.record_access.new.shadow c.args.turn c.args.hart c.args.ask.now.state.ic x) c.of-span.ensures c.record_access.ensures.noted
