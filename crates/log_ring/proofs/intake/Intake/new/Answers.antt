use Rattle.log_ring.proofs.Common.{arith, ap, sym, length}
use Rattle.log_ring.proofs.Waits.{fresh, passed_none}
use Rattle.log_ring.proofs.intake.Intake.new.Goals as goal

pub invariant_of-result : goal.invariant_of-result
invariant_of-result c = fresh c.args.ring c.new.result c.min-room.result c.new.ensures (omega (arith, c.min-room.ensures, c.size.ensures.least)) (omega (arith, c.min-room.ensures)) (omega (arith, c.min-room.ensures, c.size.ensures.value))

pub returns : goal.returns
returns c = sym (passed_none c.args.ring c.new.result (ap length c.new.ensures) (omega (arith, c.len-fit.ensures.value, c.len-fit.ensures.bound))).same
