use Rattle.joint_laws.proofs.Said.{say_the_run}
use Rattle.joint_laws.proofs.joint_replays_say_the_run.Goals as goal

pub returns : goal.returns
returns c = say_the_run c.recordings_run_to_the_end.ensures c.the_race_order_is_kept.ensures.whole c.the_states_are_recorded.ensures.done c.the_memory_is_recorded.ensures c.known_words_ascend.ensures c.the_rows_are_recorded.ensures.all
