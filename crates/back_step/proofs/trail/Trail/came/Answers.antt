use Rattle.back_step.proofs.Common.{subst, fresh, Trailed, IsGoneBack}
use Rattle.back_step.proofs.Showing.{gone_back}
use Rattle.back_step.proofs.trail.Trail.came.Goals as goal

pub returns : goal.returns
returns c =
    subst (λ (t : Trailed). IsGoneBack t.trace) c.self.view_is
    (gone_back (record { start = fresh c.self.inside.image.now c.self.inside.log.now.head.settings.harts c.self.inside.log.now.records; entries = c.self.inside.entries.items; now = c.self.inside.joint }) c.self.invariant.there c.self.invariant.led c.self.invariant.stands)
