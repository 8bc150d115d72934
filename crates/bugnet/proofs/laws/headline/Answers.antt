use Rattle.bugnet.proofs.Suffices.{headline}
use Rattle.bugnet.proofs.laws.headline.Goals as goal

pub returns : goal.returns
returns c = headline c.readings_are_unique.ensures c.ends_suffice.ensures c.the_rows_of_an_interval_stand_together.ensures c.files_have_their_size.ensures c.files_have_their_size-2.ensures c.blocks_are_few.ensures
