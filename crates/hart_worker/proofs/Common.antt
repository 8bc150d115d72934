-- What several files of proofs/ cite of other crates and of specs/. They import it from here, by one line.
pub use Rattle.std.proofs.Common.{Bool, Err, IfOk, List, Ok, Result, add-one, ap, drop, false, inr, length, not, slice_index_or, subst, suc, sym, true, ℕ, ◌++◌, ◌+◌, ◌<◌, ◌==◌, ◌∙◌, ◌∷◌, ◌≡◌}
pub use Rattle.bn_base.specs.Ranges.{IsSetting}
pub use Rattle.bn_outside.specs.declared.turn_row.TurnRow.{TurnRow}
pub use Rattle.bus_core.specs.Bus.{Began, IsState, IsTold, Seen, began_of, first_run, run_after}
pub use Rattle.bus_core.specs.declared.closed.Closed.{Closed}
pub use Rattle.run_laws.specs.History.{IsLawful, Place, rows_by, rows_from}
pub use Rattle.run_laws.specs.Laws.{ListsGoOn, OwnRowsAreTurns, TurnsAreLawful, TurnsAreOwn, harts_of, place_over}
pub use Rattle.whole_runs.specs.Closed.{HoldsContent, IsClosed, IsOfRows}
pub use Rattle.whole_runs.specs.Lists.{HasTaken, list_rows, list_run, seeded_after}
pub use Rattle.hart_worker.specs.Threads.{AreAllOwn, AreWorked, IsHartsOwn, IsThreaded, rows_with}
