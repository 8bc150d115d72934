use Rattle.rv_meaning.proofs.Common.{◌≡◌, ◌≤◌, ◌+◌, subst, sym, true, orderly, Ask}
use Rattle.rv_meaning.proofs.Orderly.{ask_count, ask_orderly}
use Rattle.rv_meaning.proofs.interpreter.quiet_run.Goals as goal

pub returns-clause-count : goal.returns-clause-count
returns-clause-count c = subst (λ (a : Ask). a.state.ic ≤ c.args.state.ic + c.args.budget) (sym c.quiet_run_in_place-want.ensures) (ask_count c.args.image.now c.args.budget c.args.state)

pub returns-clause-orderly : goal.returns-clause-orderly
returns-clause-orderly c h = subst (λ (a : Ask). orderly c.args.image.now c.args.state.ic c.args.budget a ≡ true) (sym c.quiet_run_in_place-want.ensures) (ask_orderly c.args.image.now c.args.budget c.args.state h)
