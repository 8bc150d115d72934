-- What several files of specs/ and src/ cite of other crates. They import it from here, by one line.
pub use Rattle.std.specs.List.{flat_map, list_any}
pub use Rattle.bn_base.specs.Programs.{Program}
pub use Rattle.bn_base.specs.declared.row.Row.{Row}
pub use Rattle.bn_base.specs.declared.state.HartState.{HartState}
pub use Rattle.joint_replay.specs.Joining.{Joining, Ran, Taken, fresh, next_step, run_all}
pub use Rattle.joint_replay.specs.Lanes.{Doing, Ending, Item, Passing}
pub use Rattle.joint_replay.specs.Memory.{Bytes, call_result, filled}
pub use Rattle.log_record.specs.declared.record.Record.{Record}
pub use Rattle.race_log.specs.Kept.{In, after, is_write}
pub use Rattle.race_log.specs.Points.{Access, IsConflict, MeetAt, Point}
pub use Rattle.race_log.specs.Represents.{RepresentsAccesses, harts_of, lasting_of, lasts, next_count, next_turn}
pub use Rattle.race_log.specs.Tests.{before, clashes}
pub use Rattle.vector_time.specs.Times.{count_of}
