-- What several files of proofs/ cite of other crates and of specs/. They import it from here, by one line.
pub use Rattle.std.proofs.Common.{Bool, Err, Global, IsErrAnd, IsTrue, List, None, Ok, OnErr, Option, Result, Some, Vec, [], ap, arith, false, get_or, length, map, nat_lt, not, refl, replicate, slice_get, subst, suc, sym, take, true, vec_capacity, vec_len, zero, ℕ, ◌&&◌, ◌++◌, ◌+◌, ◌-◌, ◌<◌, ◌||◌, ◌∙◌, ◌∷◌, ◌≡◌, ◌≤◌}
pub use Rattle.std.proofs.lemmas.Option.{get_or_from_slice_get}
pub use Rattle.bn_base.specs.Programs.{Program}
pub use Rattle.bn_base.specs.Ranges.{IsSetting}
pub use Rattle.bn_base.specs.declared.end_mark.EndMark.{EndMark}
pub use Rattle.bn_base.specs.declared.settings.RawSettings.{RawSettings}
pub use Rattle.bn_base.specs.declared.settings.TheConstants.{HARTS}
pub use Rattle.bn_outside.specs.declared.turn_row.TurnRow.{TurnRow}
pub use Rattle.file_laws.specs.Laws.{LogsOfRowsAreContents, RingsKeepTheRules}
pub use Rattle.log_order.specs.Order.{broken_by}
pub use Rattle.log_record.specs.declared.record.Record.{Record}
pub use Rattle.log_ring.specs.Kept.{Held, HoldsLog, kept}
pub use Rattle.race_log.specs.Noted.{NotesDecide}
pub use Rattle.run_laws.specs.History.{IsLawful, after_rows, are_orderly, rows_from}
pub use Rattle.run_model.specs.Represents.Harts.{AreHarts, hart_in, is_live_hart, no_hart}
pub use Rattle.run_model.specs.Represents.Plain.{IsRun, PlainParts, everyone}
pub use Rattle.run_model.specs.Represents.Turning.{parts}
pub use Rattle.run_model.specs.Runs.{any_live, has_finished, legal_from, run_from}
pub use Rattle.run_model.specs.Turn.{Run, Served, ask_at, budget, dead, halted, is_guarded, is_orderly, serve_call, serve_disorderly, served_if, turn}
unfoldable pub use Rattle.run_model.specs.Turn.{serve}
pub use Rattle.run_model.specs.declared.hart.Hart.{Hart}
pub use Rattle.run_model.specs.declared.start.Start.{Start}
pub use Rattle.rv_meaning.specs.Orderly.{passes}
pub use Rattle.rv_meaning.specs.declared.asks.Ask.{Ask}
pub use Rattle.rv_meaning.specs.declared.asks.Reply.{Reply}
pub use Rattle.bus_core.specs.Bus.{AnswersAsk, AreTold, Began, HasTurnedAlone, IsHistory, IsKept, IsLogged, IsServed, IsState, IsTold, Seen, began_of, first_run, halted_if, is_live, marks, row, run_after, seen, served_guarded, served_reply, turn_row, turned_run}
