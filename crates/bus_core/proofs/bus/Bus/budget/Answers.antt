use Rattle.bus_core.proofs.Common.{◌∙◌, ap, Hart, parts, budget, Seen}
use Rattle.bus_core.proofs.OwnTurn.{hart_seen}
use Rattle.bus_core.proofs.bus.Bus.budget.Goals as goal

pub returns : goal.returns
returns g c = λ run is.
    let p = parts c.self.inside.plain in
    let same = hart_seen p _ run _ _ _ c.args.hart c.self.inside.plain.fits.harts c.self.view_is is c.requires in
    c.budget.ensures ∙ ap (λ (h : Hart). budget p.start.settings h) same ∙ ap (λ (x : Seen). budget x.began.settings (run.harts c.args.hart)) c.self.view_is
