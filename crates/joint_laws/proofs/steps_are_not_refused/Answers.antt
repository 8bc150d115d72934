use Rattle.joint_laws.proofs.Follows.{follows}
use Rattle.joint_laws.proofs.Steps.{steps}
use Rattle.joint_laws.proofs.steps_are_not_refused.Goals as goal

pub returns : goal.returns
returns c r records order w log b h ready = steps r records w (follows c.ends_suffice.ensures c.interval_rows_are_of_turns.ensures r records order w log b) h ready
