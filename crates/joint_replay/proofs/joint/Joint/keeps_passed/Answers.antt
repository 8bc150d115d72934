use Rattle.joint_replay.proofs.MetSources.{is_sound}
use Rattle.joint_replay.proofs.joint.Joint.keeps_passed.Goals as goal

pub returns : goal.returns
returns c =
    is_sound c.starts_are_sound.ensures c.self.inside.image.now c.self.inside.log.now c.self.inside.harts c.self.inside.lanes.items c.self.inside.memory.words c.self.inside.refused c.args.self.now
    c.self.view_is c.requires c.head-head.ensures.whole c.self.invariant.0
