use Rattle.run_model.proofs.Common.{◌≡◌, subst, arith, AsksThere, Hart, hart_in}
use Rattle.run_model.proofs.Owns.{hart_at}
use Rattle.run_model.proofs.plain.Plain.part_alone.Goals as goal

pub want_alone-requires-clause-there : goal.want_alone-requires-clause-there
want_alone-requires-clause-there c =
    let hs = c.args.self.now.trace.harts.items in
    let at : c.index.result.now ≡ hart_in hs 0 = hart_at hs 0 c.index.result.now (omega (arith, c.requires.can.alone, c.args.self.now.fits.harts)) c.index.ensures in
    subst (λ (h : Hart). AsksThere c.args.walk.now h.state.x c.in-Some.want) at c.in-Some.ensures
