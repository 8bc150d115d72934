use Rattle.run_model.proofs.Common.{IsOnlySwept, parts}
use Rattle.run_model.proofs.PlainFits.{like_fit, only_reserved, swept_like}
use Rattle.run_model.proofs.plain.Plain.ready_load.Goals.{After-reserve}
use Rattle.run_model.proofs.plain.Plain.ready_load.Goals as goal

swept : (c : After-reserve) → IsOnlySwept (parts c.args.self.now) (record (parts c.args.self.now) { trace = c.reserve.new.self })
swept c = let r = c.reserve.ensures in only_reserved (parts c.args.self.now) c.reserve.new.self r.shadow r.same r.harts r.caches r.log

pub invariant_of-self : goal.invariant_of-self
invariant_of-self c = let p = c.args.self.now in record { memory = p.memory; fits = like_fit p.start.settings p.trace c.reserve.new.self p.turns p.fits (swept_like (swept c)) }

pub returns-in-Ok-clause-swept : goal.returns-in-Ok-clause-swept
returns-in-Ok-clause-swept c = swept (goal.at.returns-in-Ok-clause-swept c).After-reserve

pub returns-in-Err-clause-swept : goal.returns-in-Err-clause-swept
returns-in-Err-clause-swept c = swept (goal.at.returns-in-Err-clause-swept c).After-reserve
