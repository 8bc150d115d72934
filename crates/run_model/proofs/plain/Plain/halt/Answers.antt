use Rattle.std.proofs.Common.{arith}
use Rattle.run_model.proofs.Ending.{ended_fits, ended_trace}
use Rattle.run_model.proofs.plain.Plain.halt.Goals as goal

pub returns-clause-run : goal.returns-clause-run
returns-clause-run c run is =
    let p = c.args.self.now in
    record { machine = is.machine; trace = ended_trace p.start.settings p.trace c.end_each.new.harts run _ (record { each = c.end_each.ensures.each; len = c.end_each.ensures.len }) is.trace; turns = is.turns }

pub invariant_of-self : goal.invariant_of-self
invariant_of-self c =
    let p = c.args.self.now in
    record {
      memory = p.memory;
      fits = ended_fits p.start.settings p.trace c.end_each.new.harts p.turns p.turns (record { each = c.end_each.ensures.each; len = c.end_each.ensures.len }) p.fits (omega arith) (omega (arith, p.fits.left));
    }
