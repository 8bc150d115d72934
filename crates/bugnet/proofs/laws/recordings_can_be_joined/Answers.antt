use Rattle.bugnet.proofs.Jointly.{can_be_joined}
use Rattle.bugnet.proofs.laws.recordings_can_be_joined.Goals as goal

pub returns : goal.returns
returns c = can_be_joined c.joint_replays_say_the_run.ensures
