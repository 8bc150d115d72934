-- What several files of proofs/ cite of other crates and of specs/. They import it from here, by one line.
pub use Rattle.std.proofs.Common.{Bool, Global, IsTrue, List, None, Option, Some, Vec, [], add-one, ap, append-nil, append_assoc, ap₂, arith, bit_or, cond, drop, eq-eqb, eqb-true, false, filter, get_or, get_or-drop, get_or-set_other, get_or-set_same, if◌then◌else◌, inl, inr, is_some, le-leb, leb-false, leb-true, length, length-append, length-drop, length-set, length-take-le, lt-ltb, ltb-true, map, min, nat_le, nat_lt, ne_eqb, not, pow-suc, refl, set, set-set, shl_exact, slice_get, slice_index, slice_set, subst, suc, sym, take, take_all, true, true≢false, vec_capacity, vec_len, zero, ℕ, ◌%◌, ◌&&◌, ◌*◌, ◌++◌, ◌+◌, ◌-◌, ◌/◌, ◌<◌, ◌==◌, ◌^◌, ◌||◌, ◌∙◌, ◌∷◌, ◌≡◌, ◌≢◌, ◌≤◌, ◌⊎◌}
pub use Rattle.std.proofs.lemmas.Bool.{and_from, and_parts, cases_eq, false≢true, le-ltb, lt-leb}
pub use Rattle.std.proofs.lemmas.Bool.Decides.{eqb_tells, leb_tells}
pub use Rattle.std.proofs.lemmas.Grind.{common_steps}
pub use Rattle.std.proofs.lemmas.List.{get_or_default, set-get_or, take-append-le, take_more}
pub use Rattle.std.proofs.lemmas.Nat.{mul-le, or_lt}
pub use Rattle.std.proofs.lemmas.Option.{get_or_from_slice_get, slice_get-get_or}
pub use Rattle.std.proofs.lemmas.Result.{on_err_weaker, on_ok_weaker}
pub use Rattle.bn_base.specs.Programs.{Program}
pub use Rattle.bn_base.specs.Ranges.{IsSetting}
pub use Rattle.bn_base.specs.declared.settings.RawSettings.{RawSettings}
pub use Rattle.bn_base.specs.declared.settings.TheConstants.{HARTS}
pub use Rattle.bn_base.specs.declared.state.HartState.{HartState}
pub use Rattle.bus_memory.specs.Contents.{HasPages, HoldsMap, has_page, updated}
pub use Rattle.first_load_bits.specs.Events.{Clear, Drop, Event, Touch, line_of}
pub use Rattle.first_load_bits.specs.Represents.{Contents, RepresentsEvents, geometry_of}
pub use Rattle.first_load_bits.specs.declared.warm.Warm.{Warm}
unfoldable pub use Rattle.le_numbers.specs.Numbers.{number_bytes}
pub use Rattle.log_record.specs.Spelling.{bytes_of, tag_of, total}
pub use Rattle.log_record.specs.declared.record.Record.{Record}
pub use Rattle.log_record.specs.declared.record.Record.TheVariants.{Edge, End, FirstLoad, ScFailed, ScOk}
pub use Rattle.log_ring.specs.Kept.{Held, HoldsLog, held}
unfoldable pub use Rattle.log_ring.specs.Kept.{kept}
pub use Rattle.race_log.specs.Points.{Point}
pub use Rattle.race_log.specs.Represents.{KnowsSame, RepresentsAccesses, harts_of, is_known, kept_of, lasting_of, lasts, next_count, next_turn, times_of}
pub use Rattle.race_log.specs.Sweep.{has_bit}
unfoldable pub use Rattle.race_log.specs.Sweep.{all_below}
pub use Rattle.race_log.specs.declared.mode.Mode.TheVariants.{Read, Write}
pub use Rattle.race_log.specs.declared.shadow.Shadow.{Shadow}
pub use Rattle.rv_meaning.specs.Access.{amo_result, stored_word}
pub use Rattle.rv_meaning.specs.Ahead.{AsksThere, LeadsTo, Walking}
pub use Rattle.rv_meaning.specs.Execute.{absorbed, ask_of, count_up, count_up_if, is_exit}
pub use Rattle.rv_meaning.specs.Orderly.{has_value, is_aligned, is_counted, is_cut, is_reply_to, orderly, passes}
pub use Rattle.rv_meaning.specs.Words.{add, aligned, bytes_at}
pub use Rattle.rv_meaning.specs.declared.asks.Ask.{Ask}
pub use Rattle.rv_meaning.specs.declared.asks.Reply.{Reply}
pub use Rattle.rv_meaning.specs.declared.asks.Want.{Want}
pub use Rattle.rv_meaning.specs.declared.asks.Want.TheVariants.{Amo, Cut, Faulted, Load, LoadReserved, Store, StoreConditional, System}
pub use Rattle.system_calls.specs.declared.effect.Plan.{Plan}
pub use Rattle.run_model.specs.Counts.{AskMovesOn, EachTurnMovesOn, GuardedAsksFit, IsFit, IsRested, MovesOn, anew, is_loading, is_on, is_there, turns_left}
pub use Rattle.run_model.specs.Examples.{Begins, Ends, a_byte_store, a_conditional_store, a_filled_word, a_guarded_first_fault, a_guarded_load, a_late_fault, a_line_lost, a_line_put_out, a_relay, a_reservation_lost, a_skipped_load, a_write_by_hart_1, an_unguarded_load, bytes_after_the_load, counts_in, end, first_header, is_whole, kept_records, marked, marks_of_two_ends_a_turn, recorded, records_of_a_filled_word, records_of_a_relay, two_ends_a_turn, two_loads_of_a_word}
pub use Rattle.run_model.specs.Guards.{FormatOneIsUnguarded, RecordsDecideNothing}
pub use Rattle.run_model.specs.Machine.{Machine, answer, answer_access, answer_call, answer_sc, bytes_in, call_of, filled, is_among, is_reserved, kernel_of, others_lose, planned, put_byte, unless, with_memory, word_count}
pub use Rattle.run_model.specs.Represents.Accessed.{AsksHere, EndsTurn, IsNoted, IsOnlySwept, IsTaken}
pub use Rattle.run_model.specs.Represents.Alone.{CanTakeAlone, CanTurn, HasTurned, HaveStopped, HaveTurned, IsMovedAlone, IsNoCall, IsOnWay, IsOneOn, IsTakenAlone, IsTurnedAlone, IsUnguarded, run_alone}
pub use Rattle.run_model.specs.Represents.EachCache.{AreCaches, IsDropped, IsSetTo, cache_of, events_cleared, is_spared, no_cache, steps_in, touched_word, touches}
pub use Rattle.run_model.specs.Represents.First.{AreFirst, first_hart}
pub use Rattle.run_model.specs.Represents.Harts.{AreHarts, all_left, hart_in, is_live_hart, no_hart, others_after, stop_record, stop_records, stopped_at, stopped_below}
pub use Rattle.run_model.specs.Represents.InPlace.{IsMoved, ask_here, in_state, moved_harts, moved_run}
pub use Rattle.run_model.specs.Represents.Logs.{IsLog, Took, is_marked_next, taken}
pub use Rattle.run_model.specs.Represents.Parts.{AreAddresses, AreReserved, AreWordsIn, IsAnswer, IsMachine, IsPlanned, IsSameMachine, MachineParts, size_of}
pub use Rattle.run_model.specs.Represents.Plain.{GivesUpKnown, IsHartFit, IsRaceReady, IsRun, IsSwept, IsTrace, IsTraceFit, PlainParts, clears, count_after, everyone, is_known_to_live, is_walk_due}
pub use Rattle.run_model.specs.Represents.Tracing.{harts_by, with_ends}
pub use Rattle.run_model.specs.Represents.Turning.{is_live, parts}
pub use Rattle.run_model.specs.Runs.{first_headers, most_turns, start, start_hart, start_machine, start_state}
pub use Rattle.run_model.specs.Turn.{Run, after_call, ask_at, begun_anew, budget, by_guard, bytes_since, counted, dead, dropped, drops, edge_records, edges_from, events_after, guard_records, guarded_run, hart_after, harts_after, header, header_size, is_guarded, is_orderly, load_record, loading, mark, next_of, next_records, other_after, point_of, points_after, run_over_records, sc_record, serve_call, serve_orderly, served_if, skipped_after, span, span_of, stopped, stopped_records, turn, warmth, word_before}
unfoldable pub use Rattle.run_model.specs.Turn.{serve}
pub use Rattle.run_model.specs.declared.hart.Hart.{Hart}
pub use Rattle.run_model.specs.declared.log.Log.{Log}
pub use Rattle.run_model.specs.declared.span.Span.{Span}
pub use Rattle.run_model.specs.declared.start.Start.{Start}
pub use Rattle.run_model.specs.declared.trace.Trace.{Trace}
pub use Rattle.run_model.specs.declared.turn_end.TurnEnd.{TurnEnd}
pub use Rattle.run_model.specs.declared.turn_end.TurnEnd.TheVariants.{GoesOn, HartOver, NewInterval, RunOver}
