use Rattle.step_debugger.proofs.Common.{◌-◌, step_up_to, StaysUnrefused}
use Rattle.step_debugger.proofs.Sent.{SoFar}
use Rattle.step_debugger.proofs.session.step_up_to.Given as goal

abbrev pub invariant-loop-done : goal.invariant-loop-done
invariant-loop-done g l = record {
  told : SoFar l.fn.text (step_up_to l.hart l.count l.fn.trail.trace) (step_up_to l.hart (l.count - l.done) l.trail.trace) l.text (g.O.Sink.stream l.fn.out) (g.O.Sink.stream l.out);
  apart : StaysUnrefused l.fn.trail.trace l.trail.trace;
}
