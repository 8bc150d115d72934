-- What several files of proofs/ cite of other crates and of specs/. They import it from here, by one line.
pub use Rattle.std.proofs.Common.{AllPairs, Bool, Contains, IsTrue, List, None, Option, Some, [], ap, append-nil, append_assoc, arith, drop, eq-eqb, eqb-true, false, flat_map, if◌then◌else◌, inl, inr, le-leb, leb-false, length, length-append, length-set, ltb-false, ltb-true, map, nat_le, nat_lt, ne_eqb, not, refl, slice_get, subst, suc, sym, true, zero, ℕ, ◌%◌, ◌&&◌, ◌*◌, ◌++◌, ◌+◌, ◌-◌, ◌/◌, ◌<◌, ◌==◌, ◌^◌, ◌||◌, ◌↔◌, ◌∙◌, ◌∷◌, ◌≡◌, ◌≢◌, ◌≤◌, ◌⊎◌}
pub use Rattle.std.proofs.lemmas.Bool.Decides.{eqb_tells}
pub use Rattle.std.proofs.lemmas.Bool.{and_parts, not-true}
pub use Rattle.std.proofs.lemmas.Option.{same_Some}
pub use Rattle.log_ring.proofs.Fitting.{total-cons}
pub use Rattle.run_model.proofs.MoveOn.{budget_limit}
pub use Rattle.run_model.proofs.Asked.{eqb_same}
pub use Rattle.std.specs.Option.{option_or}
pub use Rattle.bn_base.specs.Programs.{Program, code_at}
pub use Rattle.bn_base.specs.Ranges.{IsSetting}
pub use Rattle.bn_base.specs.declared.end_mark.EndMark.{EndMark}
pub use Rattle.bn_base.specs.declared.settings.RawSettings.{RawSettings}
pub use Rattle.bn_base.specs.declared.state.HartState.{HartState}
pub use Rattle.bn_outside.specs.declared.turn_row.TurnRow.{TurnRow}
pub use Rattle.first_load_bits.specs.declared.warm.Warm.{Warm}
pub use Rattle.log_record.specs.Spelling.{bytes_of, tag_of, total}
pub use Rattle.log_record.specs.declared.record.Record.{Record}
pub use Rattle.log_record.specs.declared.record.Record.TheVariants.{Edge, End, FirstLoad, Header}
pub use Rattle.race_log.specs.Kept.{after}
pub use Rattle.race_log.specs.Points.{Point}
pub use Rattle.race_log.specs.Tests.{name_of, sources_into}
unfoldable pub use Rattle.race_log.specs.Tests.{any_below, at_places, before, edge, edges_into, greatest_first, leads}
pub use Rattle.run_model.specs.Counts.{EachTurnFits, EachTurnMovesOn, GuardedAsksFit, IsFit, IsRested, OthersStayFit, anew, turns_left}
pub use Rattle.run_model.specs.Examples.{a_byte_store, a_call_at_full_length, a_conditional_store, a_fault, a_filled_word, a_limit, a_line_lost, a_line_put_out, a_relay, a_reservation_lost, a_skipped_load, an_exit, end, is_whole, marks, one_a_time, program_of, recorded, two_loads_of_a_word}
pub use Rattle.run_model.specs.Machine.{Answered, Machine, answer, answer_sc, call_of, is_reserved, planned}
pub use Rattle.run_model.specs.Runs.{first_headers, is_live, legal_from, run_from, run_of, seeded, start, start_hart, start_state}
pub use Rattle.run_model.specs.Turn.{Run, Served, after_ask, ask_at, asked_run, budget, by_guard, bytes_since, counted, edge_records, edges_from, guard_records, guarded_run, hart_after, harts_after, header, header_size, is_guarded, is_orderly, load_record, loading, mark, next_of, next_records, other_after, point_of, points_after, run_over_records, sc_record, serve_orderly, served_if, skipped_after, span_of, stopped_records, turn, warmth, word_before}
unfoldable pub use Rattle.run_model.specs.Turn.{serve}
pub use Rattle.run_model.specs.declared.hart.Hart.{Hart}
pub use Rattle.run_model.specs.declared.span.Span.{Span}
pub use Rattle.run_model.specs.declared.turn_end.TurnEnd.{TurnEnd}
pub use Rattle.run_model.specs.declared.turn_end.TurnEnd.TheVariants.{GoesOn, HartOver, NewInterval, RunOver}
pub use Rattle.run_model.proofs.Bytes.{headers_have, total_append}
pub use Rattle.rv_meaning.specs.Execute.{Asks, Quiet, Step, absorbed, ask_of, branch, executed, fetched, meaning, near, next_at, src1, src2, step, there}
pub use Rattle.rv_meaning.specs.Orderly.{is_cut, is_reply_to, orderly}
pub use Rattle.rv_meaning.specs.declared.asks.Ask.{Ask}
pub use Rattle.rv_meaning.specs.declared.asks.Reply.{Reply}
pub use Rattle.rv_meaning.specs.declared.asks.Reply.TheVariants.{Answer, Over, Went}
pub use Rattle.rv_meaning.specs.declared.asks.Want.{Want}
pub use Rattle.rv_meaning.specs.declared.asks.Want.TheVariants.{Amo, Cut, Faulted, Load, LoadReserved, Store, StoreConditional, System}
pub use Rattle.system_calls.specs.declared.effect.Plan.{Plan}
pub use Rattle.run_laws.specs.Ends.{end_of, last_end}
pub use Rattle.run_laws.specs.History.{IsLawful, IsOwn, Place, after_rows, are_orderly, begun_at, place_after, place_from, place_of, row_at, rows_by, rows_from}
pub use Rattle.run_laws.specs.Laws.{AreJoined, AreOwn, ArePointsOf, AreTurns, EdgesAreFew, KeptEndsAreMarks, LastEndsAreMarks, ListsGoOn, OwnRowsGrow, RepliesFit, TurnsAreLawful, TurnsAreOwn, TurnsMoveTheirHart, harts_of}
pub use Rattle.run_laws.specs.Retained.{FaultsAreKept, GuardCountsFromHeaders, HasEnded, HasHeader, HeadersAreKept, IsGuarding, is_header_of}
