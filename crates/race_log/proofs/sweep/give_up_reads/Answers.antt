use Rattle.std.proofs.Common.{◌∙◌, ◌+◌, arith}
use Rattle.race_log.proofs.SweepLemmas.{gives_more}
use Rattle.race_log.proofs.sweep.give_up_reads.Goals as goal

pub loop-other-preserved : goal.loop-other-preserved
loop-other-preserved c =
    let i = c.loop-other.invariant in
    let e = c.give_up_read-gone.ensures in
    let at = c.args.at + c.loop-other.other in
    record {
      len = e.len ∙ i.len;
      few = omega (arith, e.few, i.few);
      kept = λ counts. gives_more c.args.known.now counts c.args.page.now.items c.loop-other.page.items c.give_up_read-gone.new.page.items c.args.at c.loop-other.other
          c.loop-other.gone c.give_up_read-gone.result (i.kept counts) (i.above at (omega arith)) (e.kept counts) e.others;
      below = λ j low. e.others j (λ same. omega (arith, same, low)) ∙ i.below j low;
      above = λ j high. e.others j (λ same. omega (arith, same, high)) ∙ i.above j (omega (arith, high));
      settled = λ table next zero own all. e.settled table next zero own (i.settled table next zero own all);
    }
