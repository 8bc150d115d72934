use Rattle.step_debugger.proofs.Sent.{one_more, not_sent, they_end, they_starve}
use Rattle.step_debugger.proofs.Apart.{then}
use Rattle.step_debugger.proofs.session.step_up_to.Goals as goal

pub returns-in-Err-clause-sent : goal.returns-in-Err-clause-sent
returns-in-Err-clause-sent g c = they_starve c.args.hart c.args.count c.loop-done.done c.loop-done.trail.trace c.loop-done.invariant.told c.in-Err.error c.in-Err.ensures.told

pub returns-in-Ok-Some-clause-sent : goal.returns-in-Ok-Some-clause-sent
returns-in-Ok-Some-clause-sent g c =
    they_end c.args.hart c.args.count c.loop-done.done c.loop-done.trail.trace c.loop-done.invariant.told c.step_once.new.trail.trace c.step_once.new.text c.in-Ok-Some.ending c.loop-done-test.true
    (rw c.in-Ok-Some.field-0-is at c.in-Ok-Some.ensures.told)

pub returns-in-Err-send_block-clause-sent : goal.returns-in-Err-send_block-clause-sent
returns-in-Err-send_block-clause-sent g c =
    not_sent c.args.hart c.args.count c.loop-done.done c.loop-done.trail.trace c.loop-done.invariant.told c.step_once.new.trail.trace c.step_once.new.text (g.O.Sink.stream c.send_block.new.out) c.in-Err-send_block.error c.loop-done-test.true
    (rw c.in-Ok-None.field-0-is at c.in-Ok-None.ensures.told) c.in-Err-send_block.ensures.sent

pub loop-done-preserved : goal.loop-done-preserved
loop-done-preserved g c = record {
  told = one_more c.args.hart c.args.count c.loop-done.done c.loop-done.trail.trace c.loop-done.invariant.told c.step_once.new.trail.trace c.step_once.new.text (g.O.Sink.stream c.send_block.new.out) c.send_block.new.text c.loop-done-test.true
      (rw c.in-Ok-None.field-0-is at c.in-Ok-None.ensures.told) c.in-Ok.ensures.sent c.send_block.ensures.later;
  apart = then c.args.trail.now.trace c.loop-done.trail.trace c.step_once.new.trail.trace c.loop-done.invariant.apart (rw c.in-Ok-None.field-0-is at c.in-Ok-None.ensures.apart);
}
