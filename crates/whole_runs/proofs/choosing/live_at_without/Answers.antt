use Rattle.whole_runs.proofs.Common.{◌+◌, ◌-◌, ◌<◌, ◌∙◌, sym, ap, arith, slice_get, Began, live_harts, without}
use Rattle.whole_runs.proofs.Live.{found_live, passed_live, passed_over}
use Rattle.whole_runs.proofs.choosing.live_at_without.Goals as goal
use Rattle.whole_runs.proofs.choosing.live_at_without.Goals.{then-is_live_without+else-left-eq0, else-is_live_without}

pub returns-then-left-eq0-clause-value : goal.returns-then-left-eq0-clause-value
returns-then-left-eq0-clause-value g c = λ run is.
    let began = c.args.bus.now.began in
    let k = c.loop-hart.hart in
    let ends = c.harts-hart-end.ensures.value ∙ ap (λ (b : Began). b.settings.harts) c.start.ensures in
    let within : k < began.settings.harts = omega (arith, c.loop-hart-test.true, ends) in
    sym (c.loop-hart.invariant.value run is ∙ ap (λ m. slice_get (live_harts k (began.settings.harts - k) (without c.args.left_out run.harts)) m) c.if-left-eq0.true
    ∙ found_live k began.settings.harts (without c.args.left_out run.harts) within (sym (c.is_live_without.ensures.run run is within) ∙ c.if-is_live_without.true))

pub loop-hart-preserved : goal.loop-hart-preserved
loop-hart-preserved g c =
    let began = c.args.bus.now.began in
    let k = c.loop-hart.hart in
    let ends = c.harts-hart-end.ensures.value ∙ ap (λ (b : Began). b.settings.harts) c.start.ensures in
    let within : k < began.settings.harts = omega (arith, c.loop-hart-test.true, ends) in
    elim c.if-is_live_without.branch [
      | then-is_live_without+else-left-eq0 w ↦ record {
        value = λ run is. c.loop-hart.invariant.value run is
            ∙ passed_live k began.settings.harts c.loop-hart.left (without c.args.left_out run.harts) within (sym (c.is_live_without.ensures.run run is within) ∙ w.if-is_live_without.true) (omega (arith, w.if-left-eq0.false))
            ∙ ap (λ m. slice_get (live_harts (k + 1) (began.settings.harts - (k + 1)) (without c.args.left_out run.harts)) m) (sym w.left-is);
      }
      | else-is_live_without w ↦ record {
        value = λ run is. c.loop-hart.invariant.value run is
            ∙ passed_over k began.settings.harts c.loop-hart.left (without c.args.left_out run.harts) within (sym (c.is_live_without.ensures.run run is within) ∙ w.if-is_live_without.false)
            ∙ ap (λ m. slice_get (live_harts (k + 1) (began.settings.harts - (k + 1)) (without c.args.left_out run.harts)) m) (sym w.left-is);
      }
    ]
