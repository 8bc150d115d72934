use Rattle.joint_laws.proofs.Said.{reached_say_the_run}
use Rattle.joint_laws.proofs.reached_joint_replays_say_the_run.Goals as goal

pub returns : goal.returns
returns c = reached_say_the_run c.the_race_order_is_kept.ensures.begun c.the_rows_are_recorded.ensures.first c.the_states_are_recorded.ensures.shown c.the_memory_is_recorded.ensures
