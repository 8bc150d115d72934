use Rattle.le_numbers.proofs.Fields.{number_at-written, reads_back}
use Rattle.le_numbers.proofs.laws.written_numbers_are_read.Goals as goal

pub returns-clause-front : goal.returns-clause-front
returns-clause-front c = number_at-written

pub returns-clause-place : goal.returns-clause-place
returns-clause-place c = reads_back
