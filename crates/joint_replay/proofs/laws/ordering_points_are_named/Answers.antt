use Rattle.joint_replay.proofs.PointLists.{points_are_named}
use Rattle.joint_replay.proofs.laws.ordering_points_are_named.Goals as goal

pub returns : goal.returns
returns c = points_are_named
