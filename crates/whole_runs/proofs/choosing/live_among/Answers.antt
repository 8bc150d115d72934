use Rattle.whole_runs.proofs.Common.{ℕ, ◌∙◌, sym, ap, arith, Some, Began}
use Rattle.whole_runs.proofs.Counted.{all_live}
use Rattle.whole_runs.proofs.choosing.live_among.Goals as goal

pub returns-then-live-clause-value : goal.returns-then-live-clause-value
returns-then-live-clause-value g c = λ run is counted.
    let n = c.args.bus.now.began.settings.harts in
    let all = c.if-count-harts.true ∙ c.harts.ensures.value ∙ ap (λ (b : Began). b.settings.harts) c.start.ensures in
    sym (all_live 0 n c.args.number run.harts (sym counted ∙ all) (omega (arith, c.requires, all)) ∙ ap (λ (m : ℕ). Some m) (omega arith))
