use Rattle.joint_laws.proofs.Once.{done_once}
use Rattle.joint_laws.proofs.what_was_done_is_retained.Goals as goal

pub returns : goal.returns
returns c = λ r records order w log b. (done_once c.steps_pass_their_points.ensures c.soundness_stays.ensures r records order w (c.joint_replays_begin_sound.ensures r records log) b).to_do
