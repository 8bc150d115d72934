use Rattle.replay_laws.proofs.Whole.{togetherness}
use Rattle.replay_laws.proofs.the_rows_of_an_interval_stand_together.Goals as goal

pub returns : goal.returns
returns c = togetherness
    (record { counts = c.each_instruction_is_counted_or_asks.ensures.counted; passing = c.each_instruction_is_counted_or_asks.ensures.asks; orderly = c.each_ask_is_orderly.ensures.orderly; exits = c.exits_alone_end.ensures })
