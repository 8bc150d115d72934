use Rattle.std.proofs.Common.{◌∙◌, sym, arith}
use Rattle.whole_runs.proofs.Live.{live_of, over_of, one_alone, none_alone}
use Rattle.whole_runs.proofs.choosing.choose_alone.Goals as goal

pub returns-then-live-clause-value : goal.returns-then-live-clause-value
returns-then-live-clause-value g c = λ run drawn is.
    one_alone c.args.bus.now.began.settings.harts drawn run.harts c.requires.alone (live_of c.args.bus.now.began.settings run 0 (sym (c.live.ensures.run run is) ∙ c.if-live.true))

pub returns-else-live-clause-value : goal.returns-else-live-clause-value
returns-else-live-clause-value g c = λ run drawn is.
    none_alone c.args.bus.now.began.settings.harts run.harts c.requires.alone (over_of c.args.bus.now.began.settings run 0 (omega (arith, c.requires.alone)) (sym (c.live.ensures.run run is) ∙ c.if-live.false))
