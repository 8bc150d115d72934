use Rattle.std.proofs.Common.{sym}
use Rattle.slice_back.proofs.Backs.{tells-more, tells-all}
use Rattle.slice_back.proofs.slicing.Slicing.over.Goals as goal

pub loop-passed-preserved : goal.loop-passed-preserved
loop-passed-preserved c = tells-more c.loop-passed.slicing c.pass.new.self c.args.noted.now c.loop-passed.passed c.index-noted-count.result c.loop-passed-test.true (sym c.index-noted-count.is) c.loop-passed.invariant c.in_ok-pass.ensures

pub returns : goal.returns
returns c = tells-all c.loop-passed.slicing c.args.noted.now c.loop-passed.passed c.loop-passed-test.false c.loop-passed.invariant
