use Rattle.back_step.proofs.Common.{slice_index_or, None, Entry}
use Rattle.back_step.proofs.Leading.{rest_after, led_after, element}
use Rattle.back_step.proofs.steps.take_all.Goals as goal

pub loop-at-preserved : goal.loop-at-preserved
loop-at-preserved c =
    let took = c.in_ok-take.ensures in
    let none : Entry = record { hart = 0; ic = 0; pc = None } in
    let e : Entry = slice_index_or c.args.steps.now c.loop-at.at none in
    let here = element c.args.steps.now c.loop-at.at none c.loop-at-test.true in
    record {
      led = led_after c.args.joint.now c.loop-at.joint c.args.steps.now c.loop-at.at e c.loop-at-test.true here c.loop-at.invariant.rest c.take.new.joint took c.loop-at.invariant.led;
      rest = rest_after c.args.joint.now c.loop-at.joint c.args.steps.now c.loop-at.at e c.loop-at-test.true here c.loop-at.invariant.rest c.take.new.joint took;
    }
