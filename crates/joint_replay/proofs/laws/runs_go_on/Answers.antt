use Rattle.joint_replay.proofs.Onward.{runs_go_on}
use Rattle.joint_replay.proofs.laws.runs_go_on.Goals as goal

pub returns : goal.returns
returns c = runs_go_on
