use Rattle.joint_laws.proofs.Memory.{has_memory}
use Rattle.joint_laws.proofs.the_memory_is_recorded.Goals as goal

pub returns : goal.returns
returns c = has_memory c.steps_pass_their_points.ensures c.soundness_stays.ensures c.rows_that_tell_have_no_fault.ensures c.joint_replays_begin_sound.ensures c.ends_suffice.ensures c.interval_rows_are_of_turns.ensures
    c.the_race_order_is_kept.ensures.begun c.loaded_programs_are_images.ensures c.parts_have_code_words.ensures c.run_rows_tell_words.ensures c.run_writers_have_rows.ensures c.turn_rows_are_rows.ensures
    c.the_rows_of_a_hart_are_counted.ensures c.fills_are_filled.ensures
