use Rattle.run_model.proofs.Common.{◌≡◌, ◌∙◌, subst, sym, ap, List, Some, None, length, Contents, GoesOn, events_after, AreCaches}
use Rattle.run_model.proofs.Histories.{written_back}
use Rattle.run_model.proofs.caches.Caches.take_access.Goals as goal

pub returns-clause-stands : goal.returns-clause-stands
returns-clause-stands c = λ settings events a.
    let items : c.as_mut_slice.result.now ≡ c.self.inside.of.items = c.as_mut_slice.ensures.value in
    let same : c.as_mut_slice.result.now ≡ c.args.self.now = cc in
    let before : AreCaches settings c.as_mut_slice.result.now events = subst (λ (cs : List Contents). AreCaches settings cs events) (sym same) a in
    subst (λ (cs : List Contents). AreCaches settings cs (events_after GoesOn c.args.hart None (Some c.args.span) events))
    (sym (written_back c.self.inside.of.len c.access.new.caches c.self.inside.of.items (c.access.ensures.count ∙ ap length items) (sym c.self.inside.of.ok.0))) (c.access.ensures.stands settings events before)
