use Rattle.run_model.proofs.Common.{◌≡◌, ◌∙◌, ap, length, List, subst, sym, Option, Some, None, Contents, Plan, GoesOn, Span, events_after, AreCaches}
use Rattle.run_model.proofs.Histories.{call_stands, written_back}
use Rattle.run_model.proofs.caches.Caches.take.Goals as goal

pub returns-in-None-call-clause-stands : goal.returns-in-None-call-clause-stands
returns-in-None-call-clause-stands c = λ settings events a.
    subst (λ (o : Option Plan). AreCaches settings c.take_access.new.self (events_after GoesOn c.args.hart o c.args.span events)) (sym c.in-None-call.is)
    (subst (λ (s : Option Span). AreCaches settings c.take_access.new.self (events_after GoesOn c.args.hart None s events)) (sym c.in-Some.is) (c.take_access.ensures.stands settings events a))

pub returns-in-Some-call-clause-stands : goal.returns-in-Some-call-clause-stands
returns-in-Some-call-clause-stands c = λ settings events a.
    let items : c.as_mut_slice.result.now ≡ c.self.inside.of.items = c.as_mut_slice.ensures.value in
    let same : c.as_mut_slice.result.now ≡ c.args.self.now = cc in
    let before : AreCaches settings c.as_mut_slice.result.now events = subst (λ (cs : List Contents). AreCaches settings cs events) (sym same) a in
    let new = c.drop_written.new.caches in
    let after : AreCaches settings new (events_after GoesOn c.args.hart c.args.call c.args.span events) =
    subst (λ (o : Option Plan). AreCaches settings new (events_after GoesOn c.args.hart o c.args.span events)) (sym c.in-Some-call.is)
    (subst (λ (s : Option Span). AreCaches settings new (events_after GoesOn c.args.hart (Some c.in-Some-call.field-0) s events)) (sym c.in-Some.is)
    (call_stands settings c.as_mut_slice.result.now new c.args.hart c.in-Some-call.field-0 c.in-Some.span events c.drop_written.ensures before)) in
    subst (λ (cs : List Contents). AreCaches settings cs (events_after GoesOn c.args.hart c.args.call c.args.span events))
    (sym (written_back c.self.inside.of.len new c.self.inside.of.items (c.drop_written.ensures.count ∙ ap length items) (sym c.self.inside.of.ok.0))) after
