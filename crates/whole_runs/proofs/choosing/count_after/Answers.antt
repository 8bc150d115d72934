use Rattle.whole_runs.proofs.Common.{◌∙◌, sym, arith}
use Rattle.whole_runs.proofs.choosing.count_after.Goals as goal

pub returns-then-live : goal.returns-then-live
returns-then-live g c = λ run is counted. counted (omega (arith, c.if-count-eq0.false)) (sym (c.live.ensures.run run is) ∙ c.if-live.true)
