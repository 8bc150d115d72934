use Rattle.run_model.proofs.Common.{◌+◌, ℕ, ap, arith, hart_in}
use Rattle.run_model.proofs.Ending.{ended_fits, ended_trace, some_left}
use Rattle.run_model.proofs.OneTurn.{live_within}
use Rattle.run_model.proofs.plain.Plain.end_all.Goals as goal

pub returns-clause-run : goal.returns-clause-run
returns-clause-run c run is =
    let p = c.args.self.now in
    record { machine = is.machine; trace = ended_trace p.start.settings p.trace c.end_each.new.harts run _ (record { each = c.end_each.ensures.each; len = c.end_each.ensures.len }) is.trace; turns = ap (λ (n : ℕ). n + 1) is.turns }

pub invariant_of-self : goal.invariant_of-self
invariant_of-self c =
    let p = c.args.self.now in
    let live = live_within p.trace.harts.items c.args.hart c.requires in
    let some = some_left p.start.settings p.start.settings.harts c.args.hart (hart_in p.trace.harts.items) (omega (arith, live.0, p.fits.harts)) live.1 in
    record {
      memory = p.memory;
      fits = ended_fits p.start.settings p.trace c.end_each.new.harts p.turns (p.turns + 1) (record { each = c.end_each.ensures.each; len = c.end_each.ensures.len }) p.fits (omega arith) (omega (arith, p.fits.left, some));
    }
