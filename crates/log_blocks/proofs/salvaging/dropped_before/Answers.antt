use Rattle.log_blocks.proofs.Common.{◌≡◌, ◌≤◌, ◌+◌, ◌-◌, length, arith, ap, ◌∙◌, length-take-le, number_at}
use Rattle.log_blocks.proofs.Left.{all_left, within}
use Rattle.log_blocks.proofs.Salvaged.{before_first, before_none}
use Rattle.log_blocks.proofs.salvaging.dropped_before.Goals.{After-index}
use Rattle.log_blocks.proofs.salvaging.dropped_before.Goals as goal

pub returns-then-count-eq0 : goal.returns-then-count-eq0
returns-then-count-eq0 c = λ pieces l. before_none c.args.bytes.now c.args.walk.now.sizes.items c.args.walk.now.rest c.args.walk.now.size c.args.dropped pieces (omega (arith, c.len-count.ensures, c.args.walk.now.sizes.ok, c.if-count-eq0.true)) l

-- the first block and its seal are within the bytes
ends : (c : After-index) → c.args.walk.now.rest + c.index.result.now + 48 ≤ length c.args.bytes.now
ends c =
    let count : c.len-count.result ≡ length c.args.walk.now.sizes.items = omega (arith, c.len-count.ensures, c.args.walk.now.sizes.ok) in
    within c.args.bytes.now c.args.walk.now.sizes.items c.args.walk.now.rest (c.len-count.result - 1) c.len-count.result c.index.result.now c.requires.0 (omega (arith, c.if-count-eq0.false)) (omega (arith, c.if-count-eq0.false, count)) c.index.ensures
    (all_left c.args.bytes.now c.args.walk.now.sizes.items c.args.walk.now.rest c.args.walk.now.size c.len-count.result c.requires.0 count c.requires.1)

pub overflow_add-end : goal.overflow_add-end
overflow_add-end c = omega (arith, ends (goal.at.overflow_add-end c).After-index)

pub overflow_add-end-2 : goal.overflow_add-end-2
overflow_add-end-2 c = omega (arith, ends (goal.at.overflow_add-end-2 c).After-index)

pub front-requires : goal.front-requires
front-requires c = omega (arith, ends (goal.at.front-requires c).After-index)

pub read_u64-requires : goal.read_u64-requires
read_u64-requires c = omega (arith, ap length c.front.ensures, length-take-le (c.args.walk.now.rest + c.index.result.now + 48) c.args.bytes.now (ends (goal.at.read_u64-requires c).After-index))

pub returns : goal.returns
returns c = λ pieces l.
    let count : c.len-count.result ≡ length c.args.walk.now.sizes.items = omega (arith, c.len-count.ensures, c.args.walk.now.sizes.ok) in
    c.read_u64.ensures ∙ ap (number_at 8 (c.args.walk.now.rest + c.index.result.now)) c.front.ensures
    ∙ before_first c.args.bytes.now c.args.walk.now.sizes.items c.args.walk.now.rest c.args.walk.now.size (c.len-count.result - 1) c.len-count.result c.index.result.now c.args.dropped pieces (omega (arith, c.if-count-eq0.false))
    (omega (arith, c.if-count-eq0.false, count)) count c.index.ensures l
