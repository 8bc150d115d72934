-- What several files of proofs/ cite of other crates and of specs/. They import it from here, by one line.
pub use Rattle.std.proofs.Common.{Bool, List, None, Ok, Option, Result, Some, [], ap, append-nil, append_assoc, arith, cond, div-le_self, eqb-true, false, get_or, if◌then◌else◌, inl, inr, length, length-append, length-set, ltb-true, map, max, min, mod-lt, mul-le-mul, nat_le, nat_lt, ne_eqb, not, pow_pos, refl, replicate, set, slice_get, slice_index, slice_set, subst, suc, sym, take, true, zero, ℕ, ◌%◌, ◌&&◌, ◌*◌, ◌++◌, ◌+◌, ◌-◌, ◌/◌, ◌<◌, ◌==◌, ◌^◌, ◌||◌, ◌∙◌, ◌∷◌, ◌≡◌, ◌≢◌, ◌≤◌, ◌⊎◌}
pub use Rattle.std.proofs.lemmas.Bool.{and_from, and_parts, false≢true, leb-true, not-true, or_parts}
pub use Rattle.std.proofs.lemmas.Bool.Decides.{eqb_tells}
pub use Rattle.std.proofs.lemmas.Option.{same_Some, slice_get_within}
pub use Rattle.run_laws.proofs.Few.{ListedEdges, all_contained}
pub use Rattle.run_model.proofs.MoveOn.{budget_interval, budget_limit}
pub use Rattle.run_model.proofs.Asked.{eqb_same}
pub use Rattle.std.specs.List.{AllByRecursion, list_all}
pub use Rattle.bn_base.specs.Programs.{AreApart, IsProgram, Part, Program, code_at, code_in, end_of, first_at, first_in, heap_limit, heap_start, highest_end, is_in, may_load, may_store, part_at, part_or, word_in}
pub use Rattle.bn_base.specs.Ranges.{IsSetting, default_settings}
pub use Rattle.bn_base.specs.declared.end_mark.EndMark.{EndMark}
pub use Rattle.bn_base.specs.declared.fault.Fault.TheVariants.{Breakpoint, FetchOutside, Illegal, LoadMisaligned, LoadOutside, StoreMisaligned, StoreOutside, StoreReadOnly, TargetMisaligned}
pub use Rattle.bn_base.specs.declared.settings.RawSettings.{RawSettings}
pub use Rattle.bn_base.specs.declared.state.HartState.{HartState}
pub use Rattle.bn_outside.specs.declared.turn_row.TurnRow.{TurnRow}
pub use Rattle.elf_loader.specs.Laws.{HasWords, IsImage, LoadedProgramsAreImages}
pub use Rattle.first_load_bits.specs.declared.warm.Warm.{Warm}
pub use Rattle.hart_replay.specs.Replay.{Interval, interval_from, interval_of, nothing, puts, replayed}
pub use Rattle.log_order.specs.Content.{Content, IsContent}
pub use Rattle.log_order.specs.Order.{broken_by, order_break, order_limits_of}
unfoldable pub use Rattle.log_order.specs.Order.{after_all, broken, end_break, late_edge, step}
pub use Rattle.log_order.specs.Rules.{fresh, goes_on, is_done, phase_after}
unfoldable pub use Rattle.log_order.specs.Rules.{after_header}
pub use Rattle.log_order.specs.Suffix.{EndsLast, IsEarly, Keeps}
pub use Rattle.log_order.specs.declared.view.HartView.{HartView}
pub use Rattle.log_order.specs.declared.view.OrderLimits.{OrderLimits}
pub use Rattle.log_order.specs.declared.view.Phase.TheVariants.{Awaiting, Done, Open}
pub use Rattle.log_record.specs.Spelling.{AreRegisters, Fits, has_value, is_mark, is_marked, total}
pub use Rattle.log_record.specs.declared.record.Record.{Record}
pub use Rattle.log_record.specs.declared.record.Record.TheVariants.{Edge, End, FirstLoad, Header, ScFailed, ScOk}
pub use Rattle.log_ring.specs.Kept.{Held, HoldsLog}
unfoldable pub use Rattle.log_ring.specs.Kept.{kept}
pub use Rattle.race_log.specs.Kept.{after}
pub use Rattle.race_log.specs.Points.{Point}
pub use Rattle.race_log.specs.Tests.{edges_into, name_of, sources_into}
pub use Rattle.replay_laws.specs.Law.{EndsSuffice, LogSuffices}
pub use Rattle.run_laws.specs.History.{IsLawful, after_rows, are_orderly}
pub use Rattle.run_laws.specs.Laws.{EdgesAreFew, KeptIsAnEnd, RunsEnd}
pub use Rattle.run_laws.proofs.LastEnds.{first_or_later, other_is, own_is}
pub use Rattle.run_laws.proofs.Turns.{AsksAreOrderly, all_first, all_less, fit_start, legal_first, one_less, ordered, other_state, own_state, served, uncut}
pub use Rattle.run_model.specs.Counts.{EachTurnFits, EachTurnMovesOn, GuardedAsksFit, IsFit, IsRested, MovesOn, OthersStayFit, anew, is_on, is_there, turns_left}
pub use Rattle.run_model.specs.KeptRecords.{IsEndOf, content_of, dropped_of, kept_of}
pub use Rattle.run_model.specs.Machine.{Answered, Machine, answer, answer_access, answer_call, answer_sc, bytes_in, call_of, filled, is_reserved, kernel_of, planned, put_byte, sent}
pub use Rattle.run_model.specs.Represents.Logs.{is_marked_next}
pub use Rattle.run_model.specs.Runs.{any_live, first_headers, has_finished, legal_from, most_turns, run_from, run_of, start, start_hart, start_state}
pub use Rattle.run_model.specs.Turn.{Run, Served, after_ask, after_call, ask_at, begun_anew, budget, by_guard, edge_records, edges_from, guard_records, guarded_run, hart_after, harts_after, header, is_guarded, is_orderly, load_record, loading, mark, next_of, next_records, other_after, point_of, points_after, run_over_records, sc_record, serve_disorderly, served_if, skipped_after, span_of, stopped, stopped_records, turn, warmth, word_before}
unfoldable pub use Rattle.run_model.specs.Turn.{serve}
pub use Rattle.run_model.specs.declared.hart.Hart.{Hart}
pub use Rattle.run_model.specs.declared.span.Span.{Span}
pub use Rattle.run_model.specs.declared.turn_end.TurnEnd.{TurnEnd}
pub use Rattle.run_model.specs.declared.turn_end.TurnEnd.TheVariants.{GoesOn, HartOver, NewInterval, RunOver}
pub use Rattle.rv_meaning.specs.Access.{amo_result, extended, loaded_value, stored_word}
pub use Rattle.rv_meaning.specs.Execute.{Asks, Quiet, Step, absorbed, ask_of, branch, executed, fetched, load_or, meaning, near, next_at, next_with, reg, src1, src2, store_or, there}
pub use Rattle.rv_meaning.specs.Orderly.{is_aligned, is_counted, is_cut, orderly, passes}
pub use Rattle.rv_meaning.specs.WordStates.{AreWords}
pub use Rattle.rv_meaning.specs.Words.{add, aligned, less, with_bytes, wrap}
pub use Rattle.rv_meaning.specs.declared.amo.AmoOp.{AmoOp}
pub use Rattle.rv_meaning.specs.declared.asks.Ask.{Ask}
pub use Rattle.rv_meaning.specs.declared.asks.Reply.{Reply}
pub use Rattle.rv_meaning.specs.declared.asks.Want.{Want}
pub use Rattle.rv_meaning.specs.declared.asks.Want.TheVariants.{Amo, Cut, Faulted, Load, LoadReserved, Store, StoreConditional, System}
pub use Rattle.sha2.specs.Sha256.{sha256}
pub use Rattle.system_calls.specs.declared.effect.Plan.{Plan}
pub use Rattle.file_laws.specs.Recorded.{HoldsLogOfRows, KeepsRules, counts_of, ring_content}
pub use Rattle.file_laws.specs.Laws.{FinishedLogsAreInOrder, KeptRecordsKeepTheRules, LogsAreContents, LogsOfRowsAreContents, SalvagedFilesSuffice, StreamsAreInOrder}
