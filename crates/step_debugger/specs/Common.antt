-- What several files of specs/ and src/ cite of other crates. They import it from here, by one line.
pub use Rattle.std.specs.Io.KnownBytes.{Appends, Consumes}
pub use Rattle.std.specs.List.{AllByRecursion, filter, list_any}
pub use Rattle.back_step.specs.Traces.{Trace, at_start, cut, refusing, trace_step}
pub use Rattle.bn_outside.specs.Counts.{Rose}
pub use Rattle.bn_outside.specs.Streams.{AppendsPart, AppendsShort, ConsumesAll, ReadNote, Stream, Supply, noted_after}
pub use Rattle.hart_replay.specs.declared.error.ReplayError.{ReplayError}
pub use Rattle.joint_replay.specs.Calls.{state_at}
pub use Rattle.joint_replay.specs.Joining.{Joining, choice, coming, error_of, fresh, positions_from, readiness, steps_left}
pub use Rattle.joint_replay.specs.declared.error.JointError.{JointError}
pub use Rattle.joint_replay.specs.declared.error.JointError.TheVariants.{Stuck}
