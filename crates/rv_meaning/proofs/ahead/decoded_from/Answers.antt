use Rattle.rv_meaning.proofs.Common.{◌∙◌, List, length, ap, sym, subst, arith, rules, Option, Instruction, Says, IsAhead, instruction_in, Op}
use Rattle.rv_meaning.proofs.DecodedAhead.{ahead_more, place_more, one_longer, below_end, below_end_more, first_code, code_aligned, on_err}
use Rattle.rv_meaning.proofs.ahead.decoded_from.Goals as goal

pub returns-in-None-checked_add-clause-ahead : goal.returns-in-None-checked_add-clause-ahead
returns-in-None-checked_add-clause-ahead c =
    let says = subst (λ (o : Option Instruction). Says c.of.result o) (c.decode.ensures ∙ ap instruction_in c.in-Some.ensures) c.of.ensures in
    let more = ahead_more c.args.image.now c.args.first c.loop.addr c.loop.ops.items c.of.result c.loop.invariant.0 c.loop.invariant.1 says in
    subst (λ (xs : List Op). IsAhead c.args.image.now c.args.first xs) (sym c.in_ok-push-in-Some.ensures.items) more

pub loop-preserved : goal.loop-preserved
loop-preserved c =
    let says = subst (λ (o : Option Instruction). Says c.of.result o) (c.decode.ensures ∙ ap instruction_in c.in-Some.ensures) c.of.ensures in
    let more = ahead_more c.args.image.now c.args.first c.loop.addr c.loop.ops.items c.of.result c.loop.invariant.0 c.loop.invariant.1 says in
    let items = c.in_ok-push-in-Some.ensures.items in
    let one = one_longer c.loop.ops.items _ c.of.result items in (
      subst (λ (xs : List Op). IsAhead c.args.image.now c.args.first xs) (sym items) more,
      place_more c.args.first c.loop.addr _ c.loop.ops.items _ c.of.result items c.loop.invariant.1 c.in-Some-checked_add.ensures.1,
      λ some. first_code c.args.image.now c.args.first c.loop.addr c.in-Some.word (length c.loop.ops.items) c.loop.invariant.1 c.in-Some.ensures c.loop.invariant.2,
      search rules,
      omega (arith, one, c.loop.invariant.4),
    )

pub returns-in_err-push-in-Some-clause-memory : goal.returns-in_err-push-in-Some-clause-memory
returns-in_err-push-in-Some-clause-memory c =
    on_err c.from_residual.result (first_code c.args.image.now c.args.first c.loop.addr c.in-Some.word (length c.loop.ops.items) c.loop.invariant.1 c.in-Some.ensures c.loop.invariant.2)

pub returns-in-None-clause-below : goal.returns-in-None-clause-below
returns-in-None-clause-below c = below_end c.args.first c.loop.addr c.loop.ops.items c.loop.invariant.1 c.loop.invariant.3

pub returns-in-None-checked_add-clause-below : goal.returns-in-None-checked_add-clause-below
returns-in-None-checked_add-clause-below c =
    below_end_more c.args.first c.loop.addr c.loop.ops.items c.push.new.self.items c.of.result c.in_ok-push-in-Some.ensures.items c.loop.invariant.1 c.loop.invariant.3

pub returns-clause-below : goal.returns-clause-below
returns-clause-below c = below_end c.args.first c.loop.addr c.loop.ops.items c.loop.invariant.1 c.loop.invariant.3

pub returns-in-None-clause-aligned : goal.returns-in-None-clause-aligned
returns-in-None-clause-aligned c = λ some. code_aligned c.args.image.now c.args.first (c.loop.invariant.2 some)

pub returns-in-None-checked_add-clause-aligned : goal.returns-in-None-checked_add-clause-aligned
returns-in-None-checked_add-clause-aligned c = λ some.
    code_aligned c.args.image.now c.args.first (first_code c.args.image.now c.args.first c.loop.addr c.in-Some.word (length c.loop.ops.items) c.loop.invariant.1 c.in-Some.ensures c.loop.invariant.2)

pub returns-clause-aligned : goal.returns-clause-aligned
returns-clause-aligned c = λ some. code_aligned c.args.image.now c.args.first (c.loop.invariant.2 some)
