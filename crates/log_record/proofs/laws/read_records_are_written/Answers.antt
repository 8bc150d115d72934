use Rattle.log_record.proofs.Records.{record_stands}
use Rattle.log_record.proofs.laws.read_records_are_written.Goals as goal

pub returns : goal.returns
returns c = record_stands c.read_numbers_are_written.ensures.bytes c.read_numbers_are_written.ensures.fit
