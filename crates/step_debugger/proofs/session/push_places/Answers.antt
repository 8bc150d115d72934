use Rattle.step_debugger.proofs.Common.{◌++◌, ◌<◌, arith, length, places_from}
use Rattle.step_debugger.proofs.Sent.{next_place}
use Rattle.step_debugger.proofs.session.push_places.Goals as goal

pub loop-hart-preserved : goal.loop-hart-preserved
loop-hart-preserved c =
    let low : c.loop-hart.hart < length c.args.joint.now.lanes = omega (arith, c.loop-hart-test.true, c.harts-hart-end.ensures) in
    next_place c.args.joint.now c.loop-hart.hart (length c.args.joint.now.lanes) c.loop-hart.text c.push_hart_place.new.text (c.args.text.now ++ places_from c.args.joint.now 0 (length c.args.joint.now.lanes)) low c.in_ok-push_hart_place.ensures c.loop-hart.invariant
