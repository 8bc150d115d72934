use Rattle.log_file.proofs.Again.{refused_again}
use Rattle.log_file.proofs.laws.logs_are_not_refused.Goals as goal

pub returns : goal.returns
returns c = refused_again c.numbers_have_their_width.ensures c.written_numbers_are_read.ensures.place c.no_record_begins_another.ensures
