-- What several files of specs/ and src/ cite of other crates. They import it from here, by one line.
pub use Rattle.bn_outside.specs.declared.turn_row.TurnRow.{TurnRow}
pub use Rattle.bus_core.specs.Bus.{Began, began_of, first_run, is_live}
pub use Rattle.run_laws.specs.History.{IsLawful, IsOwn, rows_by}
pub use Rattle.run_laws.specs.Laws.{harts_of, place_over}
pub use Rattle.run_model.specs.Runs.{seeded}
pub use Rattle.whole_runs.specs.Closed.{HoldsContent, IsClosed, IsOfRows}
pub use Rattle.whole_runs.specs.HartTurns.{AnswersAsk, IsDriven, IsLedTo, IsServed, first_place, place_at, taken_after}
pub use Rattle.whole_runs.specs.Lists.{HasTaken, is_finished, list_rows, seeded_after}
