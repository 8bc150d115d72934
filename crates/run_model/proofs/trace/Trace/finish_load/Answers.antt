use Rattle.run_model.proofs.Common.{None, Some, ask_here, hart_in, subst, sym}
use Rattle.first_load_bits.specs.declared.warm.Warm.{Warm}
use Rattle.run_model.specs.Represents.Harts.{AreHarts}
use Rattle.run_model.specs.Represents.Tracing.{harts_by}
use Rattle.run_model.proofs.trace.Trace.finish_load.Goals as goal

pub returns-in-Warm-clause-harts : goal.returns-in-Warm-clause-harts
returns-in-Warm-clause-harts c f h =
    subst (λ (w : Warm). AreHarts c.finish_on.new.self.harts.items (harts_by c.args.settings.now None c.args.self.now.harts.items 0 (ask_here (hart_in c.args.self.now.harts.items 0) c.args.want.now) c.args.reply (Some w) c.finish_on.new.self.log.bytes f))
    (sym c.in-Warm.is) (c.finish_on.ensures.harts f h)

pub returns-in-Cold-clause-harts : goal.returns-in-Cold-clause-harts
returns-in-Cold-clause-harts c f h =
    subst (λ (w : Warm). AreHarts c.finish_on-in-Cold.new.self.harts.items (harts_by c.args.settings.now None c.args.self.now.harts.items 0 (ask_here (hart_in c.args.self.now.harts.items 0) c.args.want.now) c.args.reply (Some w) c.finish_on-in-Cold.new.self.log.bytes f))
    (sym c.in-Cold.is) (c.finish_on-in-Cold.ensures.harts f h)
