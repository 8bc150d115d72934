use Rattle.le_numbers.proofs.Fields.{drop-number_at, number_at-small}
use Rattle.le_numbers.proofs.laws.read_numbers_are_written.Goals as goal

pub returns-clause-bytes : goal.returns-clause-bytes
returns-clause-bytes c = drop-number_at

pub returns-clause-fit : goal.returns-clause-fit
returns-clause-fit c = number_at-small
