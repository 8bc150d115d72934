use Rattle.std.proofs.Common.{ℕ, ◌+◌, ◌-◌, List, arith, refl, sym, subst}
use Rattle.log_blocks.proofs.Left.{GatheredTo, gathered_none, gathered_more, gathered_all, within}
use Rattle.log_blocks.proofs.gathering.gather.Goals as goal

pub part-requires : goal.part-requires
part-requires c =
    let w = c.loop-left.invariant.whole c.loop-left.invariant.laid.0 c.loop-left.invariant.laid.1 in
    omega (arith, within c.args.bytes.now c.args.walk.now.sizes.items c.loop-left.at (c.loop-left.left - 1) c.loop-left.left c.index-size.result.now w.ps (omega (arith, c.loop-left-test.true)) (omega (arith, c.loop-left-test.true, c.loop-left.invariant.within)) c.index-size.ensures w.state)

pub overflow_add-at-in-loop-left : goal.overflow_add-at-in-loop-left
overflow_add-at-in-loop-left c =
    let w = c.loop-left.invariant.whole c.loop-left.invariant.laid.0 c.loop-left.invariant.laid.1 in
    omega (arith, within c.args.bytes.now c.args.walk.now.sizes.items c.loop-left.at (c.loop-left.left - 1) c.loop-left.left c.index-size.result.now w.ps (omega (arith, c.loop-left-test.true)) (omega (arith, c.loop-left-test.true, c.loop-left.invariant.within)) c.index-size.ensures w.state)

pub loop-left-init : goal.loop-left-init
loop-left-init c = record {
  within = omega (arith, c.len-left.ensures, c.args.walk.now.sizes.ok);
  laid = c.requires;
  whole = λ pieces l.
      subst (λ (t : List ℕ). GatheredTo c.args.bytes.now c.args.walk.now.sizes.items t c.args.walk.now.rest c.len-left.result pieces) (sym c.in_ok-out.ensures.items)
      (gathered_none c.args.bytes.now c.args.walk.now.sizes.items c.args.walk.now.rest c.args.walk.now.size c.len-left.result pieces (omega (arith, c.len-left.ensures, c.args.walk.now.sizes.ok)) l);
}

pub loop-left-preserved : goal.loop-left-preserved
loop-left-preserved c = record {
  within = omega (arith, c.loop-left.invariant.within);
  laid = c.loop-left.invariant.laid;
  whole = λ pieces l.
      subst (λ (t : List ℕ). GatheredTo c.args.bytes.now c.args.walk.now.sizes.items t (c.loop-left.at + (c.index-size.result.now + 48)) (c.loop-left.left - 1) pieces) (sym c.in_ok-extend_from_slice.ensures.items)
      (gathered_more c.args.bytes.now c.args.walk.now.sizes.items c.loop-left.out.items c.part.result.now c.loop-left.at (c.loop-left.at + (c.index-size.result.now + 48)) (c.loop-left.left - 1) c.loop-left.left c.index-size.result.now pieces
      (omega (arith, c.loop-left-test.true)) (omega (arith, c.loop-left-test.true, c.loop-left.invariant.within)) c.index-size.ensures c.part.ensures.value refl (c.loop-left.invariant.whole pieces l));
}

pub returns : goal.returns
returns c = λ pieces l. gathered_all c.args.bytes.now c.args.walk.now.sizes.items c.loop-left.out.items c.loop-left.at c.loop-left.left pieces (omega (arith, c.loop-left-test.false)) (c.loop-left.invariant.whole pieces l)
