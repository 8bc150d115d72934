use Rattle.log_ring.proofs.Waits.{passed_none}
use Rattle.log_ring.proofs.Common.{arith}
use Rattle.log_ring.proofs.intake.pass_on.Goals as goal

pub returns-else-not-is_empty : goal.returns-else-not-is_empty
returns-else-not-is_empty c = passed_none c.args.ring.now c.args.waiting.now (grind arith) (omega (arith, c.len-fit.ensures.value, c.len-fit.ensures.bound))
