use Rattle.log_blocks.proofs.Recovered.{refused_again}
use Rattle.log_blocks.proofs.laws.logs_are_not_refused.Goals as goal

pub returns : goal.returns
returns c = refused_again c.written_numbers_are_read.ensures.place c.numbers_have_their_width.ensures c.settings_in_range_are_not_bad.ensures c.tags_tell_sizes.ensures.tag c.no_record_begins_another.ensures
