use Rattle.std.proofs.Common.{arith, refl, sym, ◌∙◌}
use Rattle.log_blocks.proofs.Bytes.{some_bytes_of, no_bytes_of}
use Rattle.log_blocks.proofs.Pushed.{pushed_none, pushed_all, pushed_stuck, pushed_more}
use Rattle.log_blocks.proofs.writing.push_blocks.Goals as goal

pub loop-rest-init : goal.loop-rest-init
loop-rest-init c = record { within = omega arith; pushed = λ format rs fit parts. pushed_none format c.args.digest.now rs c.args.dropped c.args.out.now.items c.args.records.now (omega (arith, c.ranges.dropped.fits)) fit parts }

pub returns-then-size-eq0 : goal.returns-then-size-eq0
returns-then-size-eq0 c = λ format rs fit parts.
    absurd (pushed_stuck format c.args.digest.now rs c.args.dropped c.args.out.now.items c.loop-rest.out.items c.loop-rest.rest.now c.loop-rest.before c.next_block-count.result.0 c.next_block-count.result.1
    (some_bytes_of c.loop-rest.rest.now (sym c.is_empty.ensures ∙ c.loop-rest-test.true)) c.if-size-eq0.true c.next_block-count.ensures.next (c.loop-rest.invariant.pushed format rs fit parts))

pub loop-rest-preserved : goal.loop-rest-preserved
loop-rest-preserved c = record {
  within = omega (arith, c.loop-rest.invariant.within, c.split_at.ensures.back_len);
  pushed = λ format rs fit parts.
      pushed_more format c.args.digest.now rs c.args.dropped c.args.out.now.items c.loop-rest.out.items c.push_block.new.out.items c.split_at.result.0.now c.split_at.result.1.now c.loop-rest.rest.now c.loop-rest.before _
      c.next_block-count.result.0 c.next_block-count.result.1 (some_bytes_of c.loop-rest.rest.now (sym c.is_empty.ensures ∙ c.loop-rest-test.true)) c.next_block-count.ensures.next c.split_at.ensures.front c.split_at.ensures.back
      c.in_ok-push_block.ensures refl (c.loop-rest.invariant.pushed format rs fit parts);
}

pub returns : goal.returns
returns c = λ format rs fit parts.
    pushed_all format c.args.digest.now rs c.args.dropped c.args.out.now.items c.loop-rest.out.items c.loop-rest.rest.now c.loop-rest.before (no_bytes_of c.loop-rest.rest.now (sym c.is_empty.ensures ∙ c.loop-rest-test.false))
    (c.loop-rest.invariant.pushed format rs fit parts)
