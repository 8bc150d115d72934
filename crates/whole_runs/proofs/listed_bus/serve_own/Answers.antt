use Rattle.whole_runs.proofs.Common.{subst, IsSetting, Began}
use Rattle.whole_runs.proofs.OwnTurns.{served_taken}
use Rattle.whole_runs.proofs.Answered.{served_answers}
use Rattle.whole_runs.proofs.listed_bus.serve_own.Goals as goal

pub returns-clause-taken : goal.returns-clause-taken
returns-clause-taken g c =
    let e = c.serve.ensures in
    let setting = subst (λ (b : Began). IsSetting b.settings) c.start.ensures c.raw-settings.ensures.in_range in
    served_taken c.own_asks_are_orderly.ensures g.B.Book.tells c.args.bus.now c.serve.new.self c.args.hart c.args.ask.now c.serve.result setting (c.live-within.ensures.within c.requires.live) c.requires.live c.requires.own
    e.reply e.guarded e.state e.told e.disordered e.began e.halted

pub returns-clause-answered : goal.returns-clause-answered
returns-clause-answered g c =
    served_answers g.B.Book.tells c.args.bus.now c.args.hart c.args.ask.now c.serve.result (c.live-within.ensures.within c.requires.live) c.requires.live c.requires.own c.serve.ensures.reply c.serve.ensures.guarded
