use Rattle.whole_runs.proofs.Common.{◌≢◌, ◌/◌, ◌%◌, ◌^◌, ◌∙◌, sym, ap, arith, Began}
use Rattle.whole_runs.proofs.Live.{chosen_none, is_chosen}
use Rattle.whole_runs.proofs.choosing.choose.Goals as goal

pub returns-then-count-eq0-clause-value : goal.returns-then-count-eq0-clause-value
returns-then-count-eq0-clause-value g c = λ run is counted.
    let several : c.args.bus.now.began.settings.harts ≢ 1 = λ e. omega (arith, e, c.if-harts-eq1.false, c.harts.ensures.value, ap (λ (b : Began). b.settings.harts) c.start.ensures) in
    chosen_none c.args.bus.now.began.settings.harts run.harts (sym (counted several) ∙ c.if-count-eq0.true)

pub returns-clause-value : goal.returns-clause-value
returns-clause-value g c = λ run is counted.
    let several : c.args.bus.now.began.settings.harts ≢ 1 = λ e. omega (arith, e, c.if-harts-eq1.false, c.harts.ensures.value, ap (λ (b : Began). b.settings.harts) c.start.ensures) in
    is_chosen c.args.bus.now.began.settings.harts c.args.drawn c.args.count _ run.harts c.live_among.result (counted several) (omega (arith, c.if-count-eq0.false)) (ap (λ m. c.args.drawn / 2 ^ 33 % m) c.from.ensures) (c.live_among.ensures.value run is (counted several))
