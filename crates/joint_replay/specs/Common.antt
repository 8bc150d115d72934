-- What several files of specs/ and src/ cite of other crates. They import it from here, by one line.
pub use Rattle.std.specs.Option.{option_map}
pub use Rattle.bn_base.specs.Programs.{Program}
pub use Rattle.bn_base.specs.declared.end_mark.EndMark.{EndMark}
pub use Rattle.bn_base.specs.declared.row.Row.{Row}
pub use Rattle.bn_base.specs.declared.settings.RawSettings.{RawSettings}
pub use Rattle.bn_base.specs.declared.state.HartState.{HartState}
pub use Rattle.hart_replay.specs.Coming.{Replaying, after_row, outcome_only, to_come, with_rows}
pub use Rattle.hart_replay.specs.Replay.{Done, Interval, Outcome, Position, Refused, Replayed, interval_of, nothing, puts, replayed}
pub use Rattle.hart_replay.specs.declared.error.ReplayError.{ReplayError}
pub use Rattle.hart_replay.specs.declared.error.ReplayError.TheVariants.{EndDiffers, LoadMissing, NoInterval, OutOfMemory, RecordsLeft, ScMissing}
pub use Rattle.log_order.specs.Content.{Content}
pub use Rattle.log_order.specs.Order.{after_all, broken_by}
pub use Rattle.log_order.specs.Rules.{is_number, is_unfinished}
pub use Rattle.log_order.specs.declared.view.Phase.{Phase}
pub use Rattle.log_record.specs.declared.record.Record.{Record}
pub use Rattle.log_record.specs.declared.record.Record.TheVariants.{Edge, End, FirstLoad, Header, ScFailed, ScOk}
pub use Rattle.rv_meaning.specs.Words.{aligned}
