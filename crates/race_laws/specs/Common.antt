-- What several files of specs/ and src/ cite of other crates. They import it from here, by one line.
pub use Rattle.std.specs.List.{Contains}
pub use Rattle.bn_base.specs.Programs.{Program}
pub use Rattle.bn_base.specs.declared.settings.RawSettings.{RawSettings}
pub use Rattle.bn_outside.specs.declared.turn_row.TurnRow.{TurnRow}
pub use Rattle.log_record.specs.declared.record.Record.{Record}
pub use Rattle.log_record.specs.declared.record.Record.TheVariants.{Edge, Header}
pub use Rattle.race_log.specs.ByCount.{IsEdgeBetween, IsInOrder, IsPointAt}
pub use Rattle.race_log.specs.Merges.{IsMerge, IsMergeBegun, IsNext, Precedes, Respects, StandsIn}
pub use Rattle.race_log.specs.Netzer.{AtPlaces, Chain, Conflict, Either, EndingAfter, IsEdge, ProgramOrder}
pub use Rattle.race_log.specs.Points.{IsConflict, MeetAt, Point}
pub use Rattle.race_log.specs.Tests.{all_edges, conflict, edge, name_of}
pub use Rattle.run_laws.specs.History.{IsLawful, after_rows}
pub use Rattle.run_model.specs.Examples.{Recording, a_relay, recorded}
pub use Rattle.run_model.specs.Runs.{legal_from, run_of, start}
pub use Rattle.run_model.specs.Turn.{Run}
