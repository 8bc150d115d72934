use Rattle.rv_meaning.proofs.Common.{◌∙◌, ◌-◌, ◌+◌, ℕ, ap, Some, None, HartState, seen, ask_of, count_up}
use Rattle.rv_meaning.proofs.OneStep.{quiet_more, ask_at, code_step, word_step, ask_after}
use Rattle.rv_meaning.proofs.interpreter.quiet_run_in_place.Goals as goal

pub returns-in-None : goal.returns-in-None
returns-in-None c =
    let i = c.args.image.now in let s = c.loop.state in
    let fetched = c.in-None.ensures i c.code_segment-segment.ensures.none c.code_segment-segment.ensures.code in
    ask_at i c.args.budget c.loop.counter s _ c.loop-test.true (code_step i s None fetched) ∙ c.loop.invariant.0

pub returns-in-None-decode : goal.returns-in-None-decode
returns-in-None-decode c =
    let i = c.args.image.now in let s = c.loop.state in let w = c.in-Some.word in
    let fetched = c.in-Some.ensures i c.code_segment-segment.ensures.none c.code_segment-segment.ensures.code in
    ask_at i c.args.budget c.loop.counter s _ c.loop-test.true (word_step i s w None fetched c.in-None-decode.ensures) ∙ c.loop.invariant.0

pub returns-then-not-step : goal.returns-then-not-step
returns-then-not-step c =
    let i = c.args.image.now in let s = c.loop.state in let w = c.in-Some.word in let d = c.in-Some-decode.instr in
    let fetched = c.in-Some.ensures i c.code_segment-segment.ensures.none c.code_segment-segment.ensures.code in
    let t : HartState = record { pc = c.step.new.pc; x = c.step.new.x; ic = s.ic } in
    ask_after i c.args.budget c.loop.counter s t c.step.new.want _ c.loop-test.true (c.if-not-step.ensures s.ic) (word_step i s w (Some (seen d)) fetched c.in-Some-decode.ensures) ∙ c.loop.invariant.0

pub loop-preserved : goal.loop-preserved
loop-preserved c =
    let i = c.args.image.now in let s = c.loop.state in let w = c.in-Some.word in let d = c.in-Some-decode.instr in
    let fetched = c.in-Some.ensures i c.code_segment-segment.ensures.none c.code_segment-segment.ensures.code in
    let t : HartState = record { pc = c.step.new.pc; x = c.step.new.x; ic = count_up s.ic } in
    let one = c.if-not-step.ensures s.ic ∙ word_step i s w (Some (seen d)) fetched c.in-Some-decode.ensures in
    let counted = ap (λ (n : ℕ). ask_of i (c.args.budget - (c.loop.counter + 1)) (record { pc = c.step.new.pc; x = c.step.new.x; ic = n })) c.count_up-state.ensures in
    (counted ∙ quiet_more i c.args.budget c.loop.counter s t c.loop-test.true one ∙ c.loop.invariant.0, c.code_segment-segment.ensures.code)
