use Rattle.run_model.proofs.Common.{◌∙◌, ap, arith, budget}
use Rattle.run_model.proofs.Owns.{hart_at}
use Rattle.run_model.proofs.plain.Plain.budget.Goals as goal

pub returns : goal.returns
returns c =
    let p = c.args.self.now in
    c.budget.ensures ∙ ap (budget p.start.settings) (hart_at p.trace.harts.items c.args.hart c.index.result.now (omega (arith, c.requires, p.fits.harts)) c.index.ensures)
