use Rattle.row_laws.proofs.Filling.{fill_rows_fill}
use Rattle.row_laws.proofs.fill_rows_fill.Goals as goal

pub returns : goal.returns
returns c = fill_rows_fill c.tests_decide.ensures.writes
