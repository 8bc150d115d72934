use Rattle.std.proofs.Common.{arith}
use Rattle.run_model.proofs.Ending.{end_more}
use Rattle.run_model.proofs.harts.end_each.Goals as goal

pub loop-number-preserved : goal.loop-number-preserved
loop-number-preserved c =
    let l = c.loop-number in let at = c.index_mut in let i = l.invariant in
    end_more c.args.harts.now.items l.harts.items l.number at.result.now c.end.new.self (omega (arith, c.loop-number-test.true, i.len)) at.ensures.value c.end.ensures i
