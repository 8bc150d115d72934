use Rattle.log_order.proofs.Takes.{step_other}
use Rattle.log_order.proofs.laws.loads_and_conditionals_follow.Goals as goal

pub returns : goal.returns
returns c = step_other
