use Rattle.replay_laws.proofs.Whole.{beginnings}
use Rattle.replay_laws.proofs.intervals_begin_in_the_run.Goals as goal

pub returns : goal.returns
returns c = beginnings
    (record { counts = c.each_instruction_is_counted_or_asks.ensures.counted; passing = c.each_instruction_is_counted_or_asks.ensures.asks; orderly = c.each_ask_is_orderly.ensures.orderly; exits = c.exits_alone_end.ensures })
