use Rattle.step_debugger.proofs.Common.{◌≡◌, true, steps_left, go_on, StaysUnrefused}
use Rattle.step_debugger.proofs.session.go.Given as goal

abbrev pub invariant-steps : goal.invariant-steps
invariant-steps l = record {
  same : l.text ≡ l.fn.text;
  rest : go_on l.first l.breaks l.trail.trace ≡ go_on true l.breaks l.fn.trail.trace;
  apart : StaysUnrefused l.fn.trail.trace l.trail.trace;
}

-- the steps that are left
abbrev pub decreases-steps : goal.decreases-steps
decreases-steps l = steps_left l.trail.trace.now.lanes
