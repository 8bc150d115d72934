use Rattle.log_blocks.proofs.Says.{files_read}
use Rattle.log_blocks.proofs.readings.files_are_read.Goals as goal

pub returns : goal.returns
returns c = files_read c.files_name_their_version.ensures
