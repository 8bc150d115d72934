use Rattle.step_debugger.proofs.Common.{List, ℕ, ap, arith, Reading}
use Rattle.step_debugger.proofs.Lasting.{at_begin, line_more, line_last, line_fails}
use Rattle.step_debugger.proofs.Apart.{line_apart}
use Rattle.step_debugger.proofs.debugger.debug.Goals as goal

pub lines-init : goal.lines-init
lines-init g c = record {
  stands = at_begin (ap (λ (bs : List ℕ). record { trace = c.args.trail.now.trace; hart = 0; breaks = bs }) c.new.ensures.items) (ap (λ (r : Reading). r.count) c.new-reader.ensures);
  apart = λ u. u;
  read = omega arith;
  later = omega arith;
}

pub lines-preserved : goal.lines-preserved
lines-preserved g c = record {
  stands = line_more c.lines.invariant.stands (rw c.if-not-goes_on.false at c.in-Ok.ensures.taken);
  apart = λ u. c.in-Ok.ensures.apart (c.lines.invariant.apart u);
  read = omega (arith, c.lines.invariant.read, c.answer_next.ensures.read);
  later = omega (arith, c.lines.invariant.later, c.answer_next.ensures.later);
}

pub returns-in-Err-clause-told : goal.returns-in-Err-clause-told
returns-in-Err-clause-told g c = line_fails c.lines.invariant.stands c.in-Err.error c.lines.invariant.read c.lines.invariant.later c.in-Err.ensures.taken

pub returns-in-Err-clause-apart : goal.returns-in-Err-clause-apart
returns-in-Err-clause-apart g c = line_apart c.args.trail.now.trace c.lines.trail.trace c.answer_next.new.trail.trace c.in-Err.error c.lines.invariant.apart c.in-Err.ensures.apart

pub returns-then-not-goes_on-clause-told : goal.returns-then-not-goes_on-clause-told
returns-then-not-goes_on-clause-told g c = line_last c.lines.invariant.stands (rw c.if-not-goes_on.true at c.in-Ok.ensures.taken)
