use Rattle.run_model.proofs.Common.{List, arith, sym, subst, ◌∙◌, length-set, Record, IsLog}
use Rattle.run_model.proofs.Stopping.{stop_more, stops_more, hart_there}
use Rattle.run_model.proofs.harts.stop_others.Goals as goal

pub loop-number-preserved : goal.loop-number-preserved
loop-number-preserved c =
    let l = c.loop-number in let s = c.stop_one in let i = l.invariant in let at = c.index_mut in
    record {
      len = length-set l.harts.items l.number s.new.hart ∙ i.len;
      harts = λ f are. stop_more l.harts.items c.args.own l.number s.new.hart f (i.harts f are) (omega (arith, c.loop-number-test.true, i.len)) (s.ensures.hart f (hart_there l.harts.items c.args.own l.number at.result.now f (i.harts f are) (omega (arith, c.loop-number-test.true, i.len)) ∙ sym at.ensures.value));
      holds = λ f rs are held. subst (λ (xs : List Record). IsLog s.new.log xs) (stops_more c.args.own l.number f rs at.result.now (hart_there l.harts.items c.args.own l.number at.result.now f (i.harts f are) (omega (arith, c.loop-number-test.true, i.len)) ∙ sym at.ensures.value)) (s.ensures.holds _ (i.holds f rs are held));
      took = omega (arith, i.took, s.ensures.took);
      size = s.ensures.size ∙ i.size;
    }
