-- What several files of proofs/ cite of other crates and of specs/. They import it from here, by one line.
pub use Rattle.std.proofs.Common.{Bool, IsTrue, List, None, Option, Some, [], ap, append_assoc, arith, bit_and, cond, drop, eq-eqb, eqb-true, false, get_or, get_or-set_same, if◌then◌else◌, inl, inr, length, length-append, ltb-true, map, min, nat_le, nat_lt, not, refl, set, slice_get, slice_index, subst, suc, sym, take, true, zero, ℕ, ◌%◌, ◌&&◌, ◌*◌, ◌++◌, ◌+◌, ◌-◌, ◌/◌, ◌<◌, ◌==◌, ◌^◌, ◌||◌, ◌↔◌, ◌∙◌, ◌∷◌, ◌≡◌, ◌≤◌, ◌⊎◌}
pub use Rattle.std.proofs.lemmas.Bool.{and_parts, false≢true}
pub use Rattle.std.proofs.lemmas.Bool.Decides.{eqb_tells}
pub use Rattle.std.proofs.lemmas.Option.{none-some, same_Some}
pub use Rattle.std.specs.List.{AllByRecursion, list_all, list_any, range_with_len}
pub use Rattle.bn_base.specs.Programs.{Part, Program, code_at, code_in, heap_limit, heap_start, is_in, is_writable, may_load, may_store, part_at, part_or, word_in}
pub use Rattle.bn_base.specs.Ranges.{IsSetting}
pub use Rattle.bn_base.specs.declared.row.Row.{Row}
pub use Rattle.bn_base.specs.declared.settings.RawSettings.{RawSettings}
pub use Rattle.bn_base.specs.declared.state.HartState.{HartState}
pub use Rattle.hart_replay.specs.Coming.{after_row, reply_in}
pub use Rattle.race_log.specs.Kept.{access_point, accesses_from, is_write}
pub use Rattle.race_log.specs.Points.{Access, Point, Writes}
pub use Rattle.race_log.specs.declared.mode.Mode.TheVariants.{Read, Write}
pub use Rattle.race_log.proofs.Next.{get_new, in_after, old_at}
pub use Rattle.race_log.proofs.BoolFacts.{or_first, or_second, or_split}
pub use Rattle.run_laws.specs.Laws.{OwnAsksAreOrderly, TurnsMoveTheirHart}
pub use Rattle.run_laws.proofs.Converse.{legal_front, run_append}
pub use Rattle.run_model.specs.Machine.{Machine, answer_call, answer_sc, call_of, filled, is_reserved, kernel_of, planned, word_count}
pub use Rattle.run_model.specs.Rows.{answered_reg, quiet_rows, rows_of, sc_store, turn_rows, want_rows}
pub use Rattle.run_model.specs.Runs.{legal_from, run_from, run_of, start, start_state}
pub use Rattle.run_model.specs.Turn.{Run, ask_at, budget, call_span, is_guarded, point_of, points_after, sc_span, serve_call, served_if, span, turn}
unfoldable pub use Rattle.run_model.specs.Turn.{serve}
pub use Rattle.run_model.specs.declared.span.Span.{Span}
pub use Rattle.rv_meaning.specs.Access.{amo_result, stored_word}
pub use Rattle.rv_meaning.specs.Execute.{Asks, Quiet, Step, absorbed, amo, ask_of, branch, executed, fetched, load_or, meaning, near, reg, src1, src2, step, store_or, there}
pub use Rattle.rv_meaning.specs.Orderly.{is_counted, passes}
pub use Rattle.rv_meaning.specs.Rows.{at_address, call_row, fault_row, instruction_at, row_of, written}
pub use Rattle.rv_meaning.specs.Words.{aligned, less}
pub use Rattle.rv_meaning.specs.declared.asks.Ask.{Ask}
pub use Rattle.rv_meaning.specs.declared.asks.Reply.{Reply}
pub use Rattle.rv_meaning.specs.declared.asks.Want.{Want}
pub use Rattle.rv_meaning.specs.declared.asks.Want.TheVariants.{Amo, Cut, Faulted, Load, LoadReserved, Store, StoreConditional, System}
pub use Rattle.system_calls.specs.Calls.{all_bytes, plan_of, read_plan, stream_len, stream_size, write_plan}
pub use Rattle.system_calls.specs.declared.effect.Plan.{Plan}
pub use Rattle.system_calls.specs.declared.kernel.Kernel.{Kernel}
pub use Rattle.replay_laws.proofs.Counts.{asked_at, cut_state, point_at, want_at}
pub use Rattle.replay_laws.proofs.Own.{aligned_own}
pub use Rattle.replay_laws.proofs.Coming.{equal_flip}
pub use Rattle.replay_laws.proofs.Asked.{span_to}
pub use Rattle.replay_laws.proofs.Turned.{not_cut}
pub use Rattle.rv_decode.specs.Table.{Instruction}
pub use Rattle.row_laws.specs.Calls.{AddsCall, IsSendRow}
pub use Rattle.row_laws.specs.Fills.{Fills, HasByte, HasCodeWords, IsFill, IsFillRow, result_of}
pub use Rattle.row_laws.specs.Laws.{BeginningsTellStates, FillRowsFill, IntervalRowsAreOfTurns, PartsHaveCodeWords, PointsAreOfTurns, RowsAreOfTurns, RowsTellRegisters, RowsTellRuns, RowsTellStates, RowsTellWords, RowsThatTellHaveNoFault, RunCallsAccess, RunFillRowsFill, RunRowsTellWords, RunWritersHaveRows, SendRowsSend, TurnRowsAreRows, WritersHaveRows}
pub use Rattle.row_laws.specs.States.{AreRowsFrom, AsksOrderly, HasRow, TurnHasRow, state_after}
pub use Rattle.row_laws.specs.Words.{Adds, memory_after, word_point, word_told}
