-- What several files of proofs/ cite of other crates and of specs/. They import it from here, by one line.
pub use Rattle.std.proofs.Common.{Bool, List, None, Option, Some, [], add-zero, ap, append-nil, append_assoc, arith, cond, drop, eq-eqb, eqb-true, false, if◌then◌else◌, inl, inr, length, length-append, length-take, ltb-true, map, nat_le, nat_lt, ne_eqb, not, refl, slice_index, subst, suc, sym, take, true, zero, ℕ, ◌%◌, ◌&&◌, ◌*◌, ◌++◌, ◌+◌, ◌-◌, ◌/◌, ◌<◌, ◌==◌, ◌^◌, ◌||◌, ◌∙◌, ◌∷◌, ◌≡◌, ◌≢◌, ◌≤◌, ◌⊎◌}
pub use Rattle.std.proofs.lemmas.Bool.{and_from, and_left, and_parts, and_right, cases_lt, false≢true, not-true, or_from, or_left, or_parts, or_right}
pub use Rattle.std.proofs.lemmas.Bool.Decides.{eqb_tells, nat_tests}
pub use Rattle.run_model.proofs.Asked.{eqb_same}
pub use Rattle.std.specs.List.{range_with_len}
pub use Rattle.bn_base.specs.Faults.{fault_number}
pub use Rattle.bn_base.specs.Programs.{Program, may_load, may_store}
pub use Rattle.bn_base.specs.declared.end_mark.EndMark.{EndMark}
pub use Rattle.bn_base.specs.declared.fault.Fault.{Fault}
pub use Rattle.bn_base.specs.declared.row.Row.{Row}
pub use Rattle.bn_base.specs.declared.settings.RawSettings.{RawSettings}
pub use Rattle.bn_base.specs.declared.state.HartState.{HartState}
pub use Rattle.bus_memory.specs.Contents.{updated}
pub use Rattle.first_load_bits.specs.Events.{Clear, Drop, Event, Geometry, Touch, line_of, word_of}
pub use Rattle.first_load_bits.specs.Represents.{geometry_of}
pub use Rattle.first_load_bits.specs.Warm.{held, warm}
pub use Rattle.first_load_bits.specs.declared.warm.Warm.{Warm}
pub use Rattle.hart_replay.specs.Replay.{Done, Interval, Logged, Next, On, Outcome, Position, Refused, Replayed, Stop, after_ask, after_sc, ask_step, call_reason, ended, fault_end, finish, first, found, interval_from, interval_of, left_over, logged, logged_from, missing, nothing, one_step, onto, or_else, put, puts, replayed, replayed_in, slot, steps, system_step, taken_from, word_for}
pub use Rattle.hart_replay.specs.declared.error.ReplayError.TheVariants.{EndDiffers, LoadMissing, NoInterval, RecordsLeft, ScMissing}
pub use Rattle.log_record.specs.declared.record.Record.{Record}
pub use Rattle.log_record.specs.declared.record.Record.TheVariants.{End, FirstLoad, Header, ScFailed, ScOk}
pub use Rattle.race_log.specs.Kept.{after}
pub use Rattle.race_log.specs.Points.{Point}
pub use Rattle.race_log.specs.Tests.{sources_into}
unfoldable pub use Rattle.race_log.specs.Tests.{any_below, at_places, before, edge, edges_into, greatest_first, leads}
pub use Rattle.race_log.specs.declared.mode.Mode.{Mode}
pub use Rattle.race_log.specs.declared.mode.Mode.TheVariants.{Read, Write}
pub use Rattle.run_model.specs.Machine.{Answered, Machine, answer, answer_call, answer_sc, call_of, filled, is_reserved, kernel_of, planned, put_byte, sent, word_count}
pub use Rattle.run_model.specs.Rows.{ask_part, ask_rows, quiet_part, quiet_rows, reply_at, rows_if, rows_in, rows_of, turn_rows, turn_rows_in, want_rows}
pub use Rattle.run_model.specs.Runs.{any_live, first_headers, legal_from, run_from, run_of, start, start_state}
pub use Rattle.run_model.specs.Turn.{Run, after_call, ask_at, begun_anew, budget, by_guard, call_span, cleared, counted, dropped, drops, edge_records, edges_from, events_after, guard_records, guarded_run, hart_after, harts_after, header, is_guarded, is_orderly, load_record, loading, mark, next_of, next_records, other_after, other_events, own_events, point_of, run_over_records, sc_record, sc_span, serve_call, served_if, skipped_after, span_of, stopped_records, turn, warmth, word_before}
unfoldable pub use Rattle.run_model.specs.Turn.{serve}
pub use Rattle.run_model.specs.declared.hart.Hart.{Hart}
pub use Rattle.run_model.specs.declared.span.Span.{Span}
pub use Rattle.run_model.specs.declared.turn_end.TurnEnd.{TurnEnd}
pub use Rattle.run_model.specs.declared.turn_end.TurnEnd.TheVariants.{GoesOn, HartOver, NewInterval, RunOver}
pub use Rattle.rv_meaning.specs.Access.{amo_result, stored_word}
pub use Rattle.rv_meaning.specs.Execute.{Asks, Quiet, Step, absorbed, ask_of, count_up, count_up_if, is_exit, step}
pub use Rattle.rv_meaning.specs.Orderly.{is_counted, is_cut, orderly, passes}
pub use Rattle.rv_meaning.specs.Rows.{at_address, call_row, fault_row, known, row_of}
pub use Rattle.rv_meaning.specs.Words.{aligned}
pub use Rattle.rv_meaning.specs.declared.asks.Ask.{Ask}
pub use Rattle.rv_meaning.specs.declared.asks.Reply.{Reply}
pub use Rattle.rv_meaning.specs.declared.asks.Reply.TheVariants.{Answer, Over, Stored, Went, Word}
pub use Rattle.rv_meaning.specs.declared.asks.Want.{Want}
pub use Rattle.rv_meaning.specs.declared.asks.Want.TheVariants.{Amo, Cut, Faulted, Load, LoadReserved, Store, StoreConditional, System}
pub use Rattle.system_calls.specs.Laws.{ExitsAloneEnd, is_end}
pub use Rattle.system_calls.specs.declared.effect.Plan.{Plan}
pub use Rattle.replay_laws.specs.Known.{Agrees, WarmWordsStayKnown, learned, next_at, touched, touched_at}
pub use Rattle.replay_laws.specs.Law.{EndsSuffice, IntervalsBegin, IsAtGuard, IsBeforeTurn, IsWhole, LogSuffices, RowsAreCounted, RowsStandTogether, end_of, rows_at_end}
