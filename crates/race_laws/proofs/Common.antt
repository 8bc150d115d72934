-- What several files of proofs/ cite of other crates and of specs/. They import it from here, by one line.
pub use Rattle.std.proofs.Common.{Bool, Contains, IsTrue, List, None, Option, Some, [], ap, append-nil, ap₂, arith, cond, eqb-true, false, get_or, inl, inr, length, length-append, map, nat_lt, not, refl, slice_get, subst, subst₂, suc, sym, true, zero, ℕ, ◌&&◌, ◌++◌, ◌+◌, ◌<◌, ◌==◌, ◌^◌, ◌||◌, ◌↔◌, ◌∙◌, ◌∷◌, ◌≡◌, ◌≤◌, ◌⊎◌}
pub use Rattle.std.proofs.lemmas.Bool.Decides.{eqb_tells}
pub use Rattle.std.proofs.lemmas.Option.{slice_get-get_or, slice_get_within}
pub use Rattle.std.proofs.lemmas.Bool.{and_from, and_parts, cases_lt, false≢true, or_cases, or_left, or_right}
pub use Rattle.run_model.proofs.Asked.{eqb_same}
pub use Rattle.bn_base.specs.Programs.{Program}
pub use Rattle.bn_base.specs.Ranges.{IsSetting}
pub use Rattle.bn_base.specs.declared.settings.RawSettings.{RawSettings}
pub use Rattle.bn_base.specs.declared.state.HartState.{HartState}
pub use Rattle.bn_outside.specs.declared.turn_row.TurnRow.{TurnRow}
pub use Rattle.first_load_bits.specs.declared.warm.Warm.{Warm}
pub use Rattle.log_record.specs.declared.record.Record.{Record}
pub use Rattle.log_record.specs.declared.record.Record.TheVariants.{Edge, End, FirstLoad, Header, ScFailed, ScOk}
pub use Rattle.race_log.specs.ByCount.{IsEdgeBetween, IsInOrder, StandByCounts}
pub use Rattle.race_log.specs.Kept.{In, after}
pub use Rattle.race_log.specs.Netzer.{AtPlaces, Chain, Chosen, Conflict, Either, EndingAfter, IsEdge, OtherThan, ProgramOrder}
pub use Rattle.race_log.specs.Netzer.Chain.{more, one}
pub use Rattle.race_log.specs.Points.{IsConflict, MeetAt, Point}
pub use Rattle.race_log.specs.Tests.{all_edges, conflict, either, is_conflict, is_same_hart, name_of, of_both, program_order, sources_into}
unfoldable pub use Rattle.race_log.specs.Tests.{any_below, at_places, before, edge, edges_into, edges_of_first, greatest_first, leads}
pub use Rattle.race_log.proofs.Listed.{contains_in, in_contains}
pub use Rattle.race_log.proofs.Next.{get_new, get_old, in_after}
pub use Rattle.run_laws.specs.History.{IsLawful, after_rows, rows_from}
pub use Rattle.run_model.specs.Counts.{EachTurnFits, EachTurnMovesOn, GuardedAsksFit, IsFit, IsRested, MovesOn, OthersStayFit, anew, is_there}
pub use Rattle.run_model.specs.Machine.{answer, call_of}
pub use Rattle.run_model.specs.Runs.{first_headers, run_from, run_of, start, start_state}
pub use Rattle.run_model.specs.Turn.{Run, ask_at, asked_run, by_guard, dead, edge_records, edges_from, guard_records, guarded_run, hart_after, harts_after, is_guarded, is_orderly, load_record, loading, mark, next_of, next_records, point_of, points_after, run_over_records, sc_record, serve_disorderly, serve_orderly, served_if, skipped_after, span_of, stopped_records, turn, warmth, word_before}
unfoldable pub use Rattle.run_model.specs.Turn.{serve}
pub use Rattle.run_model.specs.declared.hart.Hart.{Hart}
pub use Rattle.run_model.specs.declared.turn_end.TurnEnd.{TurnEnd}
pub use Rattle.run_model.specs.declared.turn_end.TurnEnd.TheVariants.{GoesOn, NewInterval, RunOver}
pub use Rattle.rv_meaning.specs.Execute.{absorbed}
pub use Rattle.rv_meaning.specs.declared.asks.Ask.{Ask}
pub use Rattle.rv_meaning.specs.declared.asks.Reply.{Reply}
pub use Rattle.race_laws.specs.Edges.{edge_between, edge_record, edges_in, netzer_records}
pub use Rattle.race_laws.specs.Laws.{EdgesAreNetzers, HasEdgesByCount, HasEdgesOfInstructions, HasLeastEdges, HasNetzersEdges, HasNoImpliedEdge, HasOrder, KeepsEdgesAlone, KeepsLateEdges, KeepsWords, OrdersConflicts, ReplayedAreSinceHeaders}
pub use Rattle.race_laws.specs.Since.{KeptEdge}
