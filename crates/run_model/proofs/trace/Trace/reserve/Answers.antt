use Rattle.run_model.specs.Represents.Plain.{everyone}
use Rattle.run_model.proofs.trace.Trace.reserve.Goals as goal

pub returns-in-Some-clause-shadow : goal.returns-in-Some-clause-shadow
returns-in-Some-clause-shadow c points stands = c.reserve.ensures.stands points everyone stands
