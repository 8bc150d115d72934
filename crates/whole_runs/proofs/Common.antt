-- What several files of proofs/ cite of other crates and of specs/. They import it from here, by one line.
pub use Rattle.std.proofs.Common.{Bool, Err, IfErr, IfOk, IfSome, List, MatchOption, None, Ok, OnOk, Option, Result, Some, [], ap, append-nil, append_assoc, arith, drop, drop-cons, false, get_or, inl, inr, is_err, length, length-append, length-take, nat_lt, not, refl, replicate, slice_get, subst, suc, sym, take, take-append-drop, take_all, true, zero, ℕ, ◌%◌, ◌&&◌, ◌++◌, ◌+◌, ◌-◌, ◌/◌, ◌<◌, ◌==◌, ◌^◌, ◌||◌, ◌∙◌, ◌∷◌, ◌≡◌, ◌≢◌, ◌≤◌, ◌⊎◌}
pub use Rattle.std.proofs.lemmas.Option.{slice_get-get_or}
pub use Rattle.std.proofs.lemmas.Result.{IfOk-weaker, on_ok_weaker}
pub use Rattle.std.specs.List.{AllByRecursion, list_any}
pub use Rattle.bn_base.specs.Programs.{Program}
pub use Rattle.bn_base.specs.Ranges.{IsSetting}
pub use Rattle.bn_base.specs.declared.settings.RawSettings.{RawSettings}
pub use Rattle.bn_outside.specs.declared.turn_row.TurnRow.{TurnRow}
pub use Rattle.bus_core.specs.Bus.{Began, HasTurnedAlone, IsLogged, IsState, IsTold, Seen, began_of, first_run, marks, row, run_after, served_guarded, served_reply, served_run, turn_row, turned_run}
pub use Rattle.run_laws.specs.History.{IsOwn, Place, after_rows, are_orderly, ask_from, place_after, row_at, rows_from}
pub use Rattle.run_laws.specs.Laws.{OwnAsksAreOrderly, OwnRowsGrow, RunsEnd}
pub use Rattle.run_model.specs.Runs.{any_live, chosen, draw, has_finished, is_live, legal_from, live_harts, most_turns, run_from, run_of, seeded, seeded_from, start}
pub use Rattle.run_model.specs.Turn.{Run, ask_at, by_guard, guarded_run, hart_after, harts_after, is_guarded, is_orderly, next_of, other_after, serve_answered, served_if, turn}
unfoldable pub use Rattle.run_model.specs.Turn.{serve}
pub use Rattle.run_model.specs.declared.error.TurnError.TheVariants.{IllegalTurn, NotFinished, OutOfMemory}
pub use Rattle.run_model.specs.declared.hart.Hart.{Hart}
pub use Rattle.rv_meaning.specs.declared.asks.Ask.{Ask}
pub use Rattle.rv_meaning.specs.declared.asks.Reply.{Reply}
pub use denote.Ref.{Bor}
pub use Rattle.whole_runs.specs.Chosen.{AreAdded, IsCounted, IsFirst, IsListed, kept_after, kept_with}
pub use Rattle.whole_runs.specs.Closed.{IsClosed, IsOfRows}
pub use Rattle.whole_runs.specs.Drawn.{IsDrawing, after, current, drawn, drawn_after, drawn_from, drawn_of, taker}
pub use Rattle.whole_runs.specs.Followed.{WholeListsAreFollowed, legal_prefix, legal_prefix_from}
pub use Rattle.whole_runs.specs.HartTurns.{AnswersAsk, IsDriven, IsLed, place_at, row_of, taken_after}
pub use Rattle.whole_runs.specs.Laws.{RowsNameTheirHarts, ScheduledListsEnd, SeededListsEnd, WholeRunsHaveNoError}
pub use Rattle.whole_runs.specs.Lists.{HasTaken, IsLiveCount, error_of, is_finished, is_legal, list_rows, list_run, live_harts_of, live_without, seeded_after, without}
pub use Rattle.whole_runs.specs.Scheduled.{scheduled}
pub use Rattle.whole_runs.specs.Taking.{AnswersTurn, StaysTaken, Taking}
pub use Rattle.whole_runs.specs.declared.drawing.Drawing.{Drawing}
