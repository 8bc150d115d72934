use Rattle.whole_runs.proofs.Common.{◌+◌, ◌-◌, ◌<◌, ◌∙◌, sym, ap, arith, length, Began, live_harts, without}
use Rattle.whole_runs.proofs.Live.{counted_live, counted_over}
use Rattle.whole_runs.proofs.choosing.count_without.Goals as goal
use Rattle.whole_runs.proofs.choosing.count_without.Goals.{then-is_live_without, else-is_live_without}

pub loop-hart-preserved : goal.loop-hart-preserved
loop-hart-preserved g c =
    let began = c.args.bus.now.began in
    let k = c.loop-hart.hart in
    let ends = c.harts-hart-end.ensures.value ∙ ap (λ (b : Began). b.settings.harts) c.start.ensures in
    let within : k < began.settings.harts = omega (arith, c.loop-hart-test.true, ends) in
    elim c.if-is_live_without.branch [
      | then-is_live_without w ↦ record {
        few = omega (arith, c.loop-hart.invariant.few, w.count-is);
        value = λ run is. c.loop-hart.invariant.value run is ∙ counted_live k began.settings.harts c.loop-hart.count (without c.args.left_out run.harts) within (sym (c.is_live_without.ensures.run run is within) ∙ w.if-is_live_without.true)
            ∙ ap (λ m. m + length (live_harts (k + 1) (began.settings.harts - (k + 1)) (without c.args.left_out run.harts))) (sym w.count-is);
      }
      | else-is_live_without w ↦ record {
        few = omega (arith, c.loop-hart.invariant.few, w.count-is);
        value = λ run is. c.loop-hart.invariant.value run is ∙ counted_over k began.settings.harts c.loop-hart.count (without c.args.left_out run.harts) within (sym (c.is_live_without.ensures.run run is within) ∙ w.if-is_live_without.false)
            ∙ ap (λ m. m + length (live_harts (k + 1) (began.settings.harts - (k + 1)) (without c.args.left_out run.harts))) (sym w.count-is);
      }
    ]
