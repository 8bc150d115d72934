use Rattle.bus_core.proofs.Common.{◌∙◌, ap, Hart, parts}
use Rattle.bus_core.proofs.OwnTurn.{hart_seen}
use Rattle.bus_core.proofs.bus.Bus.state.Goals as goal

pub returns : goal.returns
returns g c = λ run is.
    c.state.ensures ∙ ap (λ (h : Hart). h.state) (hart_seen (parts c.self.inside.plain) _ run _ _ _ c.args.hart c.self.inside.plain.fits.harts c.self.view_is is c.requires)
