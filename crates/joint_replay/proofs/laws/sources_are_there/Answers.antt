use Rattle.joint_replay.proofs.SourcesThere.{sources_are_there}
use Rattle.joint_replay.proofs.laws.sources_are_there.Goals as goal

pub returns : goal.returns
returns c = sources_are_there c.ordered_logs_have_shape.ensures c.ordering_points_ascend.ensures c.each_instruction_is_counted_or_asks.ensures.counted c.each_instruction_is_counted_or_asks.ensures.asks c.the_rows_go_on.ensures
