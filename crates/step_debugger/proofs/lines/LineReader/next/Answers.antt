use Rattle.step_debugger.proofs.Bytes.{one_more, line_read, last_read, read_failed, refused_read}
use Rattle.step_debugger.proofs.lines.LineReader.next.Goals as goal

pub returns-in-Err-clause-read : goal.returns-in-Err-clause-read
returns-in-Err-clause-read g c = read_failed _ _ c.bytes.invariant c.next_byte.ensures.called c.in-Err.ensures.given.0 c.in-Err.ensures.given.1

pub returns-in-Ok-None-clause-read : goal.returns-in-Ok-None-clause-read
returns-in-Ok-None-clause-read g c = last_read _ _ c.bytes.invariant c.next_byte.ensures.called (rw c.in-Ok-None.field-0-is at c.in-Ok-None.ensures.given)

pub returns-in-Ok-true-clause-read : goal.returns-in-Ok-true-clause-read
returns-in-Ok-true-clause-read g c =
    line_read _ _ c.bytes.invariant c.next_byte.ensures.called c.in-Ok-Some.byte (rw c.in-Ok-Some.field-0-is at c.in-Ok-Some.ensures.given) _ (rw c.in-Ok-true.field-0-test at c.in-Ok-true.ensures)

pub returns-in-Err-take-clause-read : goal.returns-in-Err-take-clause-read
returns-in-Err-take-clause-read g c = refused_read _ _ c.bytes.invariant c.next_byte.ensures.called c.in-Ok-Some.byte (rw c.in-Ok-Some.field-0-is at c.in-Ok-Some.ensures.given) _ c.in-Err-take.error c.in-Err-take.ensures

pub bytes-preserved : goal.bytes-preserved
bytes-preserved g c =
    one_more c.args.self.now _ c.bytes.invariant c.next_byte.ensures.called c.in-Ok-Some.byte (rw c.in-Ok-Some.field-0-is at c.in-Ok-Some.ensures.given) c.take.new.self (rw c.in-Ok-false.field-0-test at c.in-Ok-false.ensures) c.next_byte.ensures.later
