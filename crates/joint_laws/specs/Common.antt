-- What several files of specs/ and src/ cite of other crates. They import it from here, by one line.
pub use Rattle.std.specs.List.{Contains, flat_map, range_with_len}
pub use Rattle.bn_base.specs.declared.row.Row.{Row}
pub use Rattle.bn_base.specs.declared.state.HartState.{HartState}
pub use Rattle.joint_replay.specs.Chains.{Did, IsToDo, Leads}
pub use Rattle.joint_replay.specs.Joining.{Joining, Ran, Taken, Walk, begun, choice, fresh, next_step, readiness, run_all}
pub use Rattle.joint_replay.specs.Lanes.{Doing, Ending, Item, Passing}
pub use Rattle.joint_replay.specs.Memory.{filled, has_byte, word_after, word_in}
pub use Rattle.joint_replay.specs.Orders.{IsAllowed, IsBegun, ready_step, walk_on}
pub use Rattle.joint_replay.specs.declared.kinds.Next.TheVariants.{AllDone, Hart, NoneReady}
pub use Rattle.log_record.specs.declared.record.Record.{Record}
pub use Rattle.race_log.specs.Netzer.{AtPlaces, Chain, Either, ProgramOrder}
pub use Rattle.race_log.specs.Points.{MeetAt, Point, Touches, Writes}
pub use Rattle.run_model.specs.Examples.{Recording, a_byte_store, a_call_at_full_length, a_conditional_store, a_fault, a_filled_word, a_limit, a_line_lost, a_line_put_out, a_relay, a_reservation_lost, a_skipped_load, an_exit, one_a_time, program_of, recorded, two_loads_of_a_word}
