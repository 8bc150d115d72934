use Rattle.rv_meaning.proofs.Common.{arith, HartState, seen}
use Rattle.rv_meaning.proofs.OneStep.{ask_after}
use Rattle.rv_meaning.proofs.DecodedAhead.{ahead_step}
use Rattle.rv_meaning.proofs.interpreter.step_in_place.Goals as goal

pub returns-then-not-step : goal.returns-then-not-step
returns-then-not-step c =
    let i = c.args.image.now in let s = c.args.state.now in
    let t : HartState = record { pc = c.step.new.pc; x = c.step.new.x; ic = s.ic } in
    ask_after i 1 0 s t c.step.new.want _ (omega arith) (c.if-not-step.ensures s.ic) (ahead_step i s (seen c.args.instr.now) c.requires)
