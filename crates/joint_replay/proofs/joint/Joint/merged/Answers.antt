use Rattle.joint_replay.proofs.Merged.{at_merge}
use Rattle.joint_replay.proofs.joint.Joint.merged.Goals as goal

pub returns : goal.returns
returns c =
    at_merge c.walks_are_merges.ensures c.ready_harts_are_admitted.ensures c.self.inside.image.now c.self.inside.log.now c.self.inside.harts c.self.inside.lanes.items c.self.inside.memory.words
    c.self.inside.refused c.args.self.now c.self.view_is c.head-head.ensures.whole c.self.invariant.0
