use Rattle.run_model.proofs.Common.{ℕ, ◌∙◌, ap, orderly, Hart, is_orderly}
use Rattle.run_model.proofs.Owns.{hart_at, hart_of_run}
use Rattle.run_model.proofs.OneTurn.{live_within}
use Rattle.run_model.proofs.plain.Plain.is_orderly.Goals as goal

pub returns-clause-value : goal.returns-clause-value
returns-clause-value c =
    let p = c.args.self.now in let hs = p.trace.harts.items in
    let x = c.index-own.result.now in
    let live = live_within hs c.args.hart c.requires in
    c.is_orderly.ensures
    ∙ ap (λ (b : ℕ). orderly p.start.image x.state.ic b c.args.ask.now) c.budget-budget.ensures
    ∙ ap (λ (h : Hart). is_orderly p.start.settings p.start.image h c.args.ask.now) (hart_at hs c.args.hart x live.0 c.index-own.ensures)

pub returns-clause-run : goal.returns-clause-run
returns-clause-run c run is =
    let p = c.args.self.now in let hs = p.trace.harts.items in
    let x = c.index-own.result.now in
    let live = live_within hs c.args.hart c.requires in
    c.is_orderly.ensures
    ∙ ap (λ (b : ℕ). orderly p.start.image x.state.ic b c.args.ask.now) c.budget-budget.ensures
    ∙ ap (λ (h : Hart). is_orderly p.start.settings p.start.image h c.args.ask.now) (hart_at hs c.args.hart x live.0 c.index-own.ensures ∙ hart_of_run hs c.args.hart run.harts is.trace.harts live.0)
