use Rattle.run_model.specs.Represents.Harts.{hart_in}
use Rattle.run_model.proofs.Owns.{hart_at}
use Rattle.run_model.proofs.OneTurn.{live_within, ask_is}
use Rattle.run_model.proofs.plain.Plain.turn.Goals as goal

pub take_asked-requires-clause-asked : goal.take_asked-requires-clause-asked
take_asked-requires-clause-asked c =
    let p = c.args.self.now in let k = c.args.hart in let hs = p.trace.harts.items in
    let x = c.index-before.result.now in
    let live = live_within hs k c.requires in
    ask_is p.start.settings p.start.image x (hart_in hs k) c.quiet_run-ask.result c.budget-budget.result (hart_at hs k x live.0 c.index-before.ensures) c.budget-budget.ensures c.quiet_run-ask.ensures.value
