-- What several files of specs/ and src/ cite of other crates. They import it from here, by one line.
pub use Rattle.std.specs.List.{flat_map}
pub use Rattle.std.specs.Option.{option_map}
pub use Rattle.bn_base.specs.Programs.{Program}
pub use Rattle.bn_base.specs.declared.row.Row.{Row}
pub use Rattle.hart_replay.specs.Coming.{Begins, outcome_only}
pub use Rattle.hart_replay.specs.Replay.{Done, Interval, Refused, Replayed, interval_of, replayed}
pub use Rattle.hart_replay.specs.Scans.{Pending, due, loads_in, met}
pub use Rattle.log_record.specs.declared.record.Record.{Record}
pub use Rattle.rv_meaning.specs.Rows.{instruction_in}
pub use Rattle.rv_text.specs.Rows.{row_text}
