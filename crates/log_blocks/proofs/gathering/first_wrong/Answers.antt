use Rattle.std.proofs.Common.{◌≡◌, ◌+◌, ◌-◌, ◌<◌, length, arith, refl, sym, ◌∙◌}
use Rattle.log_blocks.proofs.Left.{all_left, within, behind_it}
use Rattle.log_blocks.proofs.Compared.{compared_none, compared_more, compared_all, differs}
use Rattle.log_blocks.proofs.gathering.first_wrong.Goals as goal

pub loop-left-init : goal.loop-left-init
loop-left-init c =
    let count : c.len-left.result ≡ length c.args.walk.now.sizes.items = omega (arith, c.len-left.ensures, c.args.walk.now.sizes.ok) in
    record {
      within = omega (arith, count);
      stand = (c.requires.0, all_left c.args.bytes.now c.args.walk.now.sizes.items c.args.walk.now.rest c.args.walk.now.size c.len-left.result c.requires.0 count c.requires.1);
      compared = λ format rs pieces fit parts same l.
          compared_none format c.args.bytes.now c.args.walk.now.sizes.items rs pieces c.args.dropped c.args.walk.now.rest c.args.walk.now.size c.len-left.result c.args.records.now (omega (arith, c.ranges.dropped.fits)) count fit parts same l;
    }

pub is_other-requires : goal.is_other-requires
is_other-requires c =
    let i = c.loop-left.invariant in
    omega (arith, within c.args.bytes.now c.args.walk.now.sizes.items c.loop-left.at (c.loop-left.left - 1) c.loop-left.left c.index-size.result.now i.stand.0 (omega (arith, c.loop-left-test.true)) (omega (arith, c.loop-left-test.true, i.within)) c.index-size.ensures i.stand.1)

pub overflow_add-result : goal.overflow_add-result
overflow_add-result c =
    let i = c.loop-left.invariant in
    omega (arith, within c.args.bytes.now c.args.walk.now.sizes.items c.loop-left.at (c.loop-left.left - 1) c.loop-left.left c.index-size.result.now i.stand.0 (omega (arith, c.loop-left-test.true)) (omega (arith, c.loop-left-test.true, i.within)) c.index-size.ensures i.stand.1)

pub overflow_add-result-then-is_other : goal.overflow_add-result-then-is_other
overflow_add-result-then-is_other c =
    let i = c.loop-left.invariant in
    omega (arith, within c.args.bytes.now c.args.walk.now.sizes.items c.loop-left.at (c.loop-left.left - 1) c.loop-left.left c.index-size.result.now i.stand.0 (omega (arith, c.loop-left-test.true)) (omega (arith, c.loop-left-test.true, i.within)) c.index-size.ensures i.stand.1)

pub overflow_add-result-then-is_other-2 : goal.overflow_add-result-then-is_other-2
overflow_add-result-then-is_other-2 c =
    let i = c.loop-left.invariant in
    omega (arith, within c.args.bytes.now c.args.walk.now.sizes.items c.loop-left.at (c.loop-left.left - 1) c.loop-left.left c.index-size.result.now i.stand.0 (omega (arith, c.loop-left-test.true)) (omega (arith, c.loop-left-test.true, i.within)) c.index-size.ensures i.stand.1)

pub overflow_add-at-in-loop-left : goal.overflow_add-at-in-loop-left
overflow_add-at-in-loop-left c =
    let i = c.loop-left.invariant in
    omega (arith, within c.args.bytes.now c.args.walk.now.sizes.items c.loop-left.at (c.loop-left.left - 1) c.loop-left.left c.index-size.result.now i.stand.0 (omega (arith, c.loop-left-test.true)) (omega (arith, c.loop-left-test.true, i.within)) c.index-size.ensures i.stand.1)

pub returns-then-is_other : goal.returns-then-is_other
returns-then-is_other c = λ format rs pieces fit parts same l.
    let i = c.loop-left.invariant in
    differs format c.args.bytes.now c.args.walk.now.sizes.items rs pieces c.args.dropped c.args.walk.now.rest c.loop-left.at (c.loop-left.left - 1) c.loop-left.left c.loop-left.before c.loop-left.rest.now c.index-size.result.now
    c.next_block-count.result.0 c.next_block-count.result.1 _ (omega (arith, c.loop-left-test.true)) (omega (arith, c.loop-left-test.true, i.within)) c.index-size.ensures c.next_block-count.ensures.next
    (sym c.is_other.ensures ∙ c.if-is_other.true) refl (i.compared format rs pieces fit parts same l)

pub loop-left-preserved : goal.loop-left-preserved
loop-left-preserved c =
    let i = c.loop-left.invariant in
    let one : c.loop-left.left - 1 + 1 ≡ c.loop-left.left = omega (arith, c.loop-left-test.true) in
    let lt : c.loop-left.left - 1 < length c.args.walk.now.sizes.items = omega (arith, c.loop-left-test.true, i.within) in
    record {
      within = omega (arith, i.within);
      stand = behind_it c.args.bytes.now c.args.walk.now.sizes.items c.loop-left.at (c.loop-left.at + (c.index-size.result.now + 48)) (c.loop-left.left - 1) c.loop-left.left c.index-size.result.now i.stand.0 one lt c.index-size.ensures refl i.stand.1;
      compared = λ format rs pieces fit parts same l.
          compared_more format c.args.bytes.now c.args.walk.now.sizes.items rs pieces c.args.dropped c.args.walk.now.rest c.loop-left.at (c.loop-left.left - 1) c.loop-left.left c.loop-left.before c.loop-left.rest.now c.index-size.result.now
          c.next_block-count.result.0 c.next_block-count.result.1 (c.loop-left.at + (c.index-size.result.now + 48)) _ c.tail-rest.result.now one lt c.index-size.ensures c.next_block-count.ensures.next
          (sym c.is_other.ensures ∙ c.if-is_other.false) refl c.tail-rest.ensures refl (i.compared format rs pieces fit parts same l);
    }

pub returns : goal.returns
returns c = λ format rs pieces fit parts same l.
    compared_all format c.args.bytes.now c.args.walk.now.sizes.items rs pieces c.args.dropped c.args.walk.now.rest c.loop-left.at c.loop-left.left c.loop-left.before c.loop-left.rest.now (omega (arith, c.loop-left-test.false))
    (c.loop-left.invariant.compared format rs pieces fit parts same l)
