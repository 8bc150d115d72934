use Rattle.row_laws.proofs.Telling.{rows_that_tell}
use Rattle.row_laws.proofs.rows_that_tell_have_no_fault.Goals as goal

pub returns : goal.returns
returns c = rows_that_tell
