use Rattle.race_log.proofs.GoesOn.{goes_on, goes_next}
use Rattle.race_log.proofs.laws.some_hart_goes_on.Goals as goal

pub returns-clause-some : goal.returns-clause-some
returns-clause-some c = goes_on

pub returns-clause-next : goal.returns-clause-next
returns-clause-next c = goes_next
