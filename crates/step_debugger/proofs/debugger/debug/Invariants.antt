use Rattle.step_debugger.proofs.Common.{◌≤◌, ◌-◌, ◌^◌, session_of, StaysUnrefused}
use Rattle.step_debugger.proofs.Lasting.{SessionAt}
use Rattle.step_debugger.proofs.debugger.debug.Given as goal

abbrev pub invariant-lines : goal.invariant-lines
invariant-lines g l = record {
  stands : SessionAt l.fn.trail.trace (session_of l.trail.trace l.focus) l.reader.count (g.I.Source.source l.fn.input) (g.I.Source.source l.input) g.I.Source.note (g.O.Sink.stream l.fn.out) (g.O.Sink.stream l.out);
  apart : StaysUnrefused l.fn.trail.trace l.trail.trace;
  read : (g.I.Source.source l.fn.input).faults ≤ (g.I.Source.source l.input).faults;
  later : (g.O.Sink.stream l.fn.out).faults ≤ (g.O.Sink.stream l.out).faults;
}

-- the bytes that may still come
abbrev pub decreases-lines : goal.decreases-lines
decreases-lines g l = 2 ^ 24 - l.reader.count
