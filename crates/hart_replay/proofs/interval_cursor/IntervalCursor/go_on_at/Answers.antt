use Rattle.hart_replay.proofs.Common.{refl, side_of}
use Rattle.hart_replay.proofs.Asked.{asks_ready, does_asked, does_quiet}
use Rattle.hart_replay.proofs.interval_cursor.IntervalCursor.go_on_at.Goals as goal

pub ask-requires : goal.ask-requires
ask-requires c =
    let x = asks_ready c.args.self.now.image.now c.args.self.now.hart c.args.self.now.state c.step.new.state c.args.self.now.mark c.step.result c.args.here.now c.step.ensures c.in_default.not-Cut c.requires.here c.requires.count c.each_instruction_is_counted_or_asks.ensures.asks in
    record { here = x.0; asks = x.1; count = x.2 }

pub returns-in-Cut-clause-answer : goal.returns-in-Cut-clause-answer
returns-in-Cut-clause-answer c =
    does_quiet c.args.self.now.image.now c.args.self.now.hart c.args.self.now.mark c.args.self.now.state c.step.new.state c.args.self.now.called (side_of c.args.self.now) c.step.result c.write_row.new.row c.step.ensures c.in-Cut.is
    c.each_instruction_is_counted_or_asks.ensures.asks c.each_instruction_is_counted_or_asks.ensures.counted (c.write_row.ensures c.args.self.now.hart c.args.self.now.image.now c.args.self.now.state c.step.new.state c.requires.here refl)

pub returns-in_default : goal.returns-in_default
returns-in_default c =
    record {
      answer = does_asked c.args.self.now.image.now c.args.self.now.hart c.args.self.now.mark c.args.self.now.state c.step.new.state c.args.self.now.called (side_of c.args.self.now) c.step.result c.ask.result c.ask.new.row c.ask.new.self.state c.ask.new.self.called (side_of c.ask.new.self) c.step.ensures c.in_default.not-Cut c.ask.ensures.answer;
      same = c.ask.ensures.same;
    }
