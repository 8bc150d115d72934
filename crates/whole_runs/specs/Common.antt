-- What several files of specs/ and src/ cite of other crates. They import it from here, by one line.
pub use Rattle.std.specs.List.{AllByRecursion, list_any}
pub use Rattle.bn_base.specs.Programs.{Program}
pub use Rattle.bn_base.specs.Ranges.{IsSetting, default_settings}
pub use Rattle.bn_base.specs.declared.settings.RawSettings.{RawSettings}
pub use Rattle.bn_outside.specs.declared.schedule.Manner.{Manner}
pub use Rattle.bn_outside.specs.declared.turn_row.TurnRow.{TurnRow}
pub use Rattle.bus_core.specs.Bus.{Began, IsState, Seen, began_of, first_run, is_live, marks, row, run_after, served_guarded, served_reply, served_run, turn_row}
pub use Rattle.bus_core.specs.declared.closed.Closed.{Closed}
pub use Rattle.run_laws.specs.History.{IsLawful, IsOwn, Place, are_orderly, ask_from, begins, begun_at, place_after, place_of, rows_from}
pub use Rattle.run_laws.specs.Laws.{place_over}
pub use Rattle.run_model.specs.Runs.{any_live, chosen, draw, has_finished, legal_from, live_harts, most_turns, run_from, run_of, seeded, seeded_from, start, start_hart, start_state}
pub use Rattle.run_model.specs.Turn.{Run, ask_at, turn}
pub use Rattle.run_model.specs.declared.error.TurnError.TheVariants.{OutOfMemory}
pub use Rattle.rv_meaning.specs.Orderly.{is_reply_to}
pub use Rattle.rv_meaning.specs.declared.asks.Ask.{Ask}
pub use Rattle.rv_meaning.specs.declared.asks.Reply.{Reply}
