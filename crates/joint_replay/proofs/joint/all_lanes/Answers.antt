use Rattle.std.proofs.Common.{refl}
use Rattle.joint_replay.proofs.Beginning.{one_begun}
use Rattle.joint_replay.proofs.joint.all_lanes.Goals as goal

pub loop-hart-preserved : goal.loop-hart-preserved
loop-hart-preserved c =
    one_begun c.args.image.now c.args.log.now.records c.loop-hart.hart c.loop-hart.lanes.items c.push_begun.new.lanes.items _ c.loop-hart.invariant refl c.in_ok-push_begun.ensures
