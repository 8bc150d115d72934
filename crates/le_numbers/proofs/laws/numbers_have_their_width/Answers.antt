use Rattle.le_numbers.proofs.Fields.{length-number_bytes}
use Rattle.le_numbers.proofs.laws.numbers_have_their_width.Goals as goal

pub returns : goal.returns
returns c = length-number_bytes
