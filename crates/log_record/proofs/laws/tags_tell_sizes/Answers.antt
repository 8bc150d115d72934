use Rattle.log_record.proofs.Sizes.{size_of-tag_of, tell_their_size}
use Rattle.log_record.proofs.laws.tags_tell_sizes.Goals as goal

pub returns-clause-tag : goal.returns-clause-tag
returns-clause-tag c = size_of-tag_of c.numbers_have_their_width.ensures

pub returns-clause-front : goal.returns-clause-front
returns-clause-front c = tell_their_size c.numbers_have_their_width.ensures
