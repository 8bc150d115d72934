use Rattle.std.proofs.Common.{◌≤◌, ◌+◌, refl, arith}
use Rattle.log_blocks.proofs.Firsts.{begun_none, begun_more, begun_all, begun_unknown, begun_over}
use Rattle.log_blocks.proofs.cutting.next_block.Goals as goal

pub loop-at-init : goal.loop-at-init
loop-at-init c = record { fewer = omega arith; within = omega arith; few = omega arith; begun = λ format rs fit parts. begun_none format c.args.bytes.now rs fit parts }

pub loop-at-preserved : goal.loop-at-preserved
loop-at-preserved c =
    let b = c.in-Some.ensures.bounds in
    let few : c.loop-at.at + c.in-Some.size ≤ 4096 = omega (arith, c.if-most-at.false, c.min-most.ensures) in
    record {
      fewer = omega (arith, c.loop-at.invariant.fewer, b.0);
      within = omega (arith, c.if-most-at.false, c.min-most.ensures);
      few = few;
      begun = λ format rs fit parts.
          begun_more c.tags_tell_sizes.ensures.front format c.args.bytes.now rs c.loop-at.at (c.loop-at.at + c.in-Some.size) c.in-Some.size c.loop-at.count c.loop-at-test.true c.in-Some.ensures.value refl few
          (c.loop-at.invariant.begun format rs fit parts);
    }

pub returns-in-None-clause-next : goal.returns-in-None-clause-next
returns-in-None-clause-next c = λ format rs fit parts.
    begun_unknown c.tags_tell_sizes.ensures.front format c.args.bytes.now rs c.loop-at.at c.loop-at.count c.loop-at-test.true c.in-None.ensures.value (c.loop-at.invariant.begun format rs fit parts)

pub returns-then-most-at-clause-next : goal.returns-then-most-at-clause-next
returns-then-most-at-clause-next c = λ format rs fit parts.
    begun_over c.tags_tell_sizes.ensures.front format c.args.bytes.now rs c.loop-at.at c.in-Some.size c.loop-at.count c.loop-at-test.true c.in-Some.ensures.value
    (λ within. omega (arith, within, c.if-most-at.true, c.min-most.ensures)) (omega (arith, c.in-Some.ensures.bounds.1)) (c.loop-at.invariant.begun format rs fit parts)

pub returns-clause-next : goal.returns-clause-next
returns-clause-next c = λ format rs fit parts. begun_all c.tags_tell_sizes.ensures.front format c.args.bytes.now rs c.loop-at.at c.loop-at.count c.loop-at-test.false (c.loop-at.invariant.begun format rs fit parts)
