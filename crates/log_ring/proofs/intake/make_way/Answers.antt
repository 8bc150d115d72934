use Rattle.log_ring.proofs.Common.{sym, subst, IsWhole}
use Rattle.log_ring.proofs.Cuts.{whole_nil}
use Rattle.log_ring.proofs.Waits.{passed_same}
use Rattle.log_ring.proofs.intake.make_way.Goals as goal

pub returns-then-room-len-clause-same : goal.returns-then-room-len-clause-same
returns-then-room-len-clause-same c = passed_same c.args.ring.now c.args.waiting.now _ _ c.pass_on.ensures

pub returns-then-room-len-clause-whole : goal.returns-then-room-len-clause-whole
returns-then-room-len-clause-whole c = subst IsWhole (sym c.pass_on.ensures.none) whole_nil
