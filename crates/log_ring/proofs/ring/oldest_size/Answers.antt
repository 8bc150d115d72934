use Rattle.log_ring.proofs.Cuts.{tag_known, oldest_is}
use Rattle.log_ring.proofs.ring.oldest_size.Goals as goal

pub unreachable-requires : goal.unreachable-requires
unreachable-requires c = tag_known c.tags_tell_sizes.ensures.front c.written_records_are_read.ensures c.args.bytes.now.items c.oldest_tag.result c.requires.some c.requires.whole c.oldest_tag.ensures c.in-None.ensures.value

pub returns : goal.returns
returns c = oldest_is c.tags_tell_sizes.ensures.front c.written_records_are_read.ensures c.args.bytes.now.items c.oldest_tag.result c.in-Some.size c.requires.some c.requires.whole c.oldest_tag.ensures c.in-Some.ensures.value
