use Rattle.log_blocks.proofs.Says.{one_reading}
use Rattle.log_blocks.proofs.readings.readings_are_unique.Goals as goal

pub returns : goal.returns
returns c = one_reading (record {
  first_one = c.files_say_one_thing.ensures;
  first_taken = c.logs_are_not_refused.ensures;
  one = c.files_say_one_thing-2.ensures;
  taken = c.logs_are_not_refused-2.ensures;
  cause = c.refusals_are_unique.ensures;
})
