use Rattle.row_laws.proofs.Intervals.{beginnings}
use Rattle.row_laws.proofs.beginnings_tell_states.Goals as goal

pub returns : goal.returns
returns c = beginnings
