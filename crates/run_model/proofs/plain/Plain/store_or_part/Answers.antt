use Rattle.run_model.proofs.Common.{◌≡◌, ℕ, sym, subst, arith, AsksThere, Store, Hart, hart_in, slice_index}
use Rattle.run_model.proofs.Owns.{hart_at}
use Rattle.run_model.proofs.plain.Plain.store_or_part.Goals as goal

pub put_alone-requires-clause-there : goal.put_alone-requires-clause-there
put_alone-requires-clause-there c =
    let hs = c.args.self.now.trace.harts.items in
    let at : c.index.result.now ≡ hart_in hs 0 = hart_at hs 0 c.index.result.now (omega (arith, c.requires.can.alone, c.args.self.now.fits.harts)) c.index.ensures in
    subst (λ (v : ℕ). AsksThere c.args.walk.now (hart_in hs 0).state.x (Store c.in-Some.addr 4 v)) (sym c.get-value.ensures)
    (subst (λ (h : Hart). AsksThere c.args.walk.now h.state.x (Store c.in-Some.addr 4 (slice_index c.index.result.now.state.x c.args.op.now.rs2))) at c.in-Some.ensures)
