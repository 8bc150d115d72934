use Rattle.run_model.proofs.Common.{ap, arith, Hart}
use Rattle.run_model.proofs.Owns.{hart_at}
use Rattle.run_model.proofs.plain.Plain.state.Goals as goal

pub returns : goal.returns
returns c =
    let p = c.args.self.now in
    ap (λ (h : Hart). h.state) (hart_at p.trace.harts.items c.args.hart c.index.result.now (omega (arith, c.requires, p.fits.harts)) c.index.ensures)
