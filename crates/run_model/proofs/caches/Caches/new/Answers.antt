use Rattle.run_model.proofs.Common.{◌+◌, List, subst, sym, Contents}
use Rattle.run_model.proofs.NewCaches.{AreNew, one_new}
use Rattle.run_model.proofs.caches.Caches.new.Goals as goal

pub loop-preserved : goal.loop-preserved
loop-preserved c =
    let settings = c.args.settings.now in
    subst (λ (cs : List Contents). AreNew settings (c.loop.counter + 1) cs) (sym c.in_ok-push.ensures.items)
    (one_new settings c.loop.counter c.loop.of.items c.in_ok-new.field-0 c.loop.invariant c.in_ok-new.ensures.geometry c.in_ok-new.ensures.empty)
