use Rattle.hart_replay.proofs.Common.{refl, Cut, side_of}
use Rattle.hart_replay.proofs.Asked.{does_quiet}
use Rattle.hart_replay.proofs.interval_cursor.IntervalCursor.goes_quietly.Goals as goal

pub returns-in-Some-clause-answer : goal.returns-in-Some-clause-answer
returns-in-Some-clause-answer c = λ _.
    let old = c.args.self.now in
    let law = c.each_instruction_is_counted_or_asks.ensures in
    does_quiet old.image.now old.hart old.mark old.state c.do_quiet.new.state old.called (side_of old) Cut c.write_row.new.row c.in-Some.ensures.done.does refl law.asks law.counted
    (c.write_row.ensures old.hart old.image.now old.state c.do_quiet.new.state (c.in-Some.ensures.done.looked_up old.hart) refl)
