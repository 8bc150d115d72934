use Rattle.joint_replay.proofs.Merged.{ready_is_admitted}
use Rattle.joint_replay.proofs.laws.ready_harts_are_admitted.Goals as goal

pub returns : goal.returns
returns c = ready_is_admitted c.steps_pass_their_points.ensures c.starts_are_sound.ensures c.sources_are_there.ensures
