use Rattle.back_step.proofs.Common.{take, drop, LeadsBy, CanTake}
use Rattle.back_step.proofs.steps.take_all.Given as goal

-- the steps before are taken, and the others can be
abbrev pub invariant-loop-at : goal.invariant-loop-at
invariant-loop-at l = record {
  led : LeadsBy l.fn.joint (take l.at l.steps) l.joint;
  rest : CanTake l.joint (drop l.at l.steps);
}
