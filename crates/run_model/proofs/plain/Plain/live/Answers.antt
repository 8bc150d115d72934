use Rattle.std.proofs.Common.{◌∙◌, length, ap, arith}
use Rattle.run_model.proofs.OneTurn.{live_there, none_live, live_in_run}
use Rattle.run_model.proofs.Ending.{turn_left}
use Rattle.run_model.proofs.plain.Plain.live.Goals as goal

pub returns-in-Some-clause-left : goal.returns-in-Some-clause-left
returns-in-Some-clause-left c live = let p = c.args.self.now in turn_left p.start.settings p.trace p.turns c.args.hart p.fits live

pub returns-in-None-clause-left : goal.returns-in-None-clause-left
returns-in-None-clause-left c live = let p = c.args.self.now in turn_left p.start.settings p.trace p.turns c.args.hart p.fits live

pub returns-in-Some-clause-value : goal.returns-in-Some-clause-value
returns-in-Some-clause-value c =
    let found = c.in-Some.ensures.lookup in
    live_there c.args.self.now.trace.harts.items c.deref.result.now c.args.hart c.from.result c.in-Some.hart.now c.deref.ensures.value c.from.ensures found.3.0 found.1

pub returns-in-Some-clause-run : goal.returns-in-Some-clause-run
returns-in-Some-clause-run c run is =
    let p = c.args.self.now in
    let found = c.in-Some.ensures.lookup in
    live_there p.trace.harts.items c.deref.result.now c.args.hart c.from.result c.in-Some.hart.now c.deref.ensures.value c.from.ensures found.3.0 found.1
    ∙ live_in_run p.start.settings run p.trace.harts.items c.args.hart is.trace.harts p.fits.harts

pub returns-in-None-clause-value : goal.returns-in-None-clause-value
returns-in-None-clause-value c =
    let past = c.in-None.ensures.lookup.3 in
    none_live c.args.self.now.trace.harts.items c.args.hart (omega (arith, past, ap length c.deref.ensures.value, c.from.ensures))

pub returns-in-None-clause-run : goal.returns-in-None-clause-run
returns-in-None-clause-run c run is =
    let p = c.args.self.now in
    let past = c.in-None.ensures.lookup.3 in
    none_live p.trace.harts.items c.args.hart (omega (arith, past, ap length c.deref.ensures.value, c.from.ensures))
    ∙ live_in_run p.start.settings run p.trace.harts.items c.args.hart is.trace.harts p.fits.harts
