-- What several files of proofs/ cite of other crates and of specs/. They import it from here, by one line.
pub use Rattle.std.proofs.Common.{Bool, Contains, Err, List, None, Ok, Option, Result, Some, [], ap, append-nil, append_assoc, arith, cond, eq-eqb, eqb-true, false, filter, inl, inr, is_some, le-leb, length, lt-ltb, ltb-true, map, nat_le, nat_lt, ne_eqb, not, refl, replicate, slice_get, slice_index, slice_index_or, slice_set, subst, subst₂, suc, sym, true, zero, ℕ, ◌&&◌, ◌++◌, ◌+◌, ◌<◌, ◌==◌, ◌∙◌, ◌∷◌, ◌≡◌, ◌≤◌, ◌⊎◌}
pub use Rattle.std.proofs.lemmas.Bool.{and_from, and_parts, cases_lt, false≢true, leb-true}
pub use Rattle.std.proofs.lemmas.Bool.Decides.{eqb_tells}
pub use Rattle.std.proofs.lemmas.Option.{none-some, same_Some, slice_get_within}
pub use Rattle.std.specs.List.{AllByRecursion, flat_map, range_with_len}
pub use Rattle.bn_base.specs.Programs.{Program}
pub use Rattle.bn_base.specs.declared.row.Row.{Row}
pub use Rattle.bn_base.specs.declared.settings.RawSettings.{RawSettings}
pub use Rattle.bn_base.specs.declared.state.HartState.{HartState}
pub use Rattle.file_laws.specs.Laws.{FilesSayTheRun, StreamsAreInOrder}
pub use Rattle.hart_replay.specs.Coming.{after_row}
pub use Rattle.hart_replay.specs.Replay.{Done, Interval, Outcome, Refused, Replayed, interval_of, replayed}
pub use Rattle.hart_replay.specs.declared.error.ReplayError.{ReplayError}
pub use Rattle.joint_replay.specs.Chains.{Did, HaveTimes, IsLeft, IsToDo, Leads, StepTo, one}
pub use Rattle.joint_replay.specs.Joining.{Joining, Ran, Taken, Walk, begun, choice, choice_from, error_of, first_waited, fresh, is_passed, lanes_from, longer, move, next_step, positions_from, ran, readiness, readiness_of, run_all, run_for, steps_left, waits_for}
pub use Rattle.joint_replay.specs.Lanes.{Cursor, Doing, Ending, Item, Lane, Passing, coming_of, cursor_step, cursors_of, cursors_steps, has_row, lane_of, lane_step, lane_steps, point_of, row_given, state_of, with_cursor}
pub use Rattle.joint_replay.specs.Laws.{ChainsAreKept, NeverStuck, SoundnessStays, StartsAreSound, StepsPass}
pub use Rattle.joint_replay.specs.Memory.{Bytes, call_result, filled, forget, has_byte, known_after, memory_after, put_access, put_word, word_after, word_in}
pub use Rattle.joint_replay.specs.Orders.{IsBegun, ready_step, walk_on}
pub use Rattle.joint_replay.specs.Points.{intervals_in, sources_into}
pub use Rattle.joint_replay.specs.Sound.{HasEdge, IsSound, SoundIf}
pub use Rattle.joint_replay.specs.Ways.{AreCursors, AreFrom, InCursors, IsLane, IsRowAt, Passes, PassesIf, last_count}
pub use Rattle.joint_replay.specs.declared.kinds.Coming.{Coming}
pub use Rattle.joint_replay.specs.declared.kinds.Coming.TheVariants.{EndAt, RowAt}
pub use Rattle.joint_replay.specs.declared.kinds.Next.{Next}
pub use Rattle.joint_replay.specs.declared.kinds.Next.TheVariants.{AllDone, Hart, NoneReady}
pub use Rattle.joint_replay.specs.declared.kinds.Readiness.{Readiness}
pub use Rattle.joint_replay.proofs.Soundness.{get_other, get_same}
pub use Rattle.log_record.specs.declared.record.Record.{Record}
pub use Rattle.log_record.specs.declared.record.Record.TheVariants.{Edge, End, FirstLoad, Header, ScFailed, ScOk}
pub use Rattle.race_laws.specs.Edges.{edge_between, edge_record}
pub use Rattle.race_laws.specs.Laws.{HasOrder, KeepsEdgesAlone, OrdersConflicts, ReplayedAreSinceHeaders}
pub use Rattle.race_laws.specs.Runs.{OfLists}
pub use Rattle.race_laws.specs.Since.{IsSinceHeader, KeptEdge}
pub use Rattle.race_log.specs.ByCount.{IsInOrder}
pub use Rattle.race_log.specs.Points.{IsSameHart, Point, Touches, Writes}
pub use Rattle.race_log.specs.Tests.{name_of}
unfoldable pub use Rattle.race_log.specs.Tests.{any_below, at_places, before, edge, edges_into, greatest_first, leads}
pub use Rattle.race_log.proofs.CountLaws.{pair_at}
pub use Rattle.replay_laws.specs.Law.{BeginsIn, EndsSuffice, IntervalsBegin, IsWhole, RowsAreCounted}
pub use Rattle.row_laws.specs.Fills.{Fills, HasByte, HasCodeWords, result_of}
pub use Rattle.row_laws.specs.Laws.{BeginningsTellStates, IntervalRowsAreOfTurns, PartsHaveCodeWords, RowsTellRuns, RowsThatTellHaveNoFault, RunRowsTellWords, RunWritersHaveRows, TurnRowsAreRows}
pub use Rattle.row_laws.specs.States.{HasRow, IsRowOfTurn, RunHasRow, state_after}
pub use Rattle.row_laws.proofs.Along.{after_append}
pub use Rattle.run_model.specs.Examples.{a_byte_store, a_call_at_full_length, a_conditional_store, a_fault, a_filled_word, a_limit, a_line_lost, a_line_put_out, a_relay, a_reservation_lost, a_skipped_load, an_exit, is_whole, one_a_time, two_loads_of_a_word}
pub use Rattle.run_model.specs.KeptRecords.{IsEndOf, content_of}
pub use Rattle.run_model.specs.Runs.{legal_from, run_of, start}
pub use Rattle.run_model.specs.Turn.{Run}
unfoldable pub use Rattle.run_model.specs.Turn.{serve}
pub use Rattle.rv_meaning.specs.Rows.{at_address}
pub use Rattle.rv_meaning.specs.Words.{aligned}
pub use Rattle.joint_laws.specs.Chains.{ChainsLead}
pub use Rattle.joint_laws.specs.Filled.{FillsAreFilled}
pub use Rattle.joint_laws.specs.Laws.{BeginsSound, GoesOn, HasFirstRows, HasMemory, HasRows, HasShownStates, HasStates, HasWordsOnce, IsRecordedWord, IsStateOfRun, JointFilesSayTheRun, JointReplaysSayTheRun, KeepsOrder, OwnLogsAreLogs, RanToTheEnd, ReachedSayTheRun, RunsToTheEnd, SaysTheRun, StandsInOrder, WordsAscend}
pub use Rattle.joint_laws.specs.Recordings.{Allowed, Begun, IsLogOf, OfBeginnings, OfWholeOrders, Recording, begin, first_state, interval_rows, kept, points_of, recorded}
pub use Rattle.joint_laws.specs.Steps.{row_in, rows_done, told_by}
