use Rattle.slice_back.proofs.Rising.{slices_ascend}
use Rattle.slice_back.proofs.laws.slices_ascend.Goals as goal

pub returns : goal.returns
returns c = slices_ascend c.each_instruction_is_counted_or_asks.ensures.counted
