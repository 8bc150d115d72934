use Rattle.log_blocks.proofs.Versions.{names}
use Rattle.log_blocks.proofs.laws.files_name_their_version.Goals as goal

pub returns : goal.returns
returns c = names c.written_numbers_are_read.ensures.place c.numbers_have_their_width.ensures c.settings_in_range_are_not_bad.ensures
