use Rattle.std.proofs.Common.{rules, arith, ap, sym, ◌∙◌, ◌-◌, length, length-drop}
use Rattle.log_file.proofs.Walks.{same_some, no_some, left_all, left_none, left_late, left_more, left_stops}
use Rattle.log_file.proofs.counting.late_edge.Goals as goal

pub loop-rest-init : goal.loop-rest-init
loop-rest-init c = record { near = omega arith; left = λ rs fit parts. left_all c.args.format c.args.harts.now rs _ c.args.bytes.now (omega arith) fit parts }

pub returns-then-late_at : goal.returns-then-late_at
returns-then-late_at c = λ rs fit parts.
    left_late c.args.format c.args.harts.now rs _ c.loop-rest.rest.now c.late_at.result (search rules) c.if-late_at.true c.late_at.ensures (c.loop-rest.invariant.left rs fit parts)

pub loop-rest-preserved : goal.loop-rest-preserved
loop-rest-preserved c =
    let behind = ap length c.tail-rest.ensures ∙ length-drop c.in-Some.size c.loop-rest.rest.now in
    record {
      near = omega (arith, c.loop-rest.invariant.near, behind);
      left = λ rs fit parts.
          left_more c.tags_tell_sizes.ensures.front c.args.format c.args.harts.now rs (length c.args.bytes.now - length c.loop-rest.rest.now) _ c.in-Some.size c.loop-rest.rest.now c.tail-rest.result.now c.late_at.result (search rules)
          c.if-late_at.false c.late_at.ensures c.in-Some.ensures.value c.tail-rest.ensures c.if-rest-size.false (omega (arith, c.loop-rest.invariant.near, behind, c.if-rest-size.false)) (c.loop-rest.invariant.left rs fit parts);
    }

pub returns-then-rest-size : goal.returns-then-rest-size
returns-then-rest-size c = λ rs fit parts.
    left_stops c.tags_tell_sizes.ensures.front c.args.format c.args.harts.now rs _ c.loop-rest.rest.now (search rules) (λ n told. omega (arith, c.if-rest-size.true, same_some n c.in-Some.size (told ∙ sym c.in-Some.ensures.value))) (c.loop-rest.invariant.left rs fit parts)

pub returns-in-None : goal.returns-in-None
returns-in-None c = λ rs fit parts.
    left_stops c.tags_tell_sizes.ensures.front c.args.format c.args.harts.now rs _ c.loop-rest.rest.now (search rules) (λ n told. no_some n (c.in-None.ensures.value ∙ sym told)) (c.loop-rest.invariant.left rs fit parts)

pub returns : goal.returns
returns c = λ rs fit parts. left_none c.args.format c.args.harts.now rs _ c.loop-rest.rest.now (search rules) (c.loop-rest.invariant.left rs fit parts)
