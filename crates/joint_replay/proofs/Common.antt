-- What several files of proofs/ cite of other crates and of specs/. They import it from here, by one line.
pub use Rattle.std.proofs.Common.{Bool, Equal, Err, Greater, IfSome, Less, IsTrue, List, None, Ok, Option, Result, Some, [], ap, append-nil, append_assoc, arith, cond, drop, eq-eqb, false, filter, if◌then◌else◌, inl, inr, is_some, length, map, max, nat_le, nat_lt, ne_eqb, not, refl, replicate, reverse, slice_get, slice_index, slice_index_or, slice_set, subst, suc, sym, take, true, zero, ℕ, ◌%◌, ◌&&◌, ◌*◌, ◌++◌, ◌+◌, ◌-◌, ◌/◌, ◌<◌, ◌==◌, ◌^◌, ◌||◌, ◌↔◌, ◌∙◌, ◌∷◌, ◌≡◌, ◌≤◌, ◌⊎◌}
pub use Rattle.std.proofs.lemmas.Bool.{and_parts, cases_lt, eqb-false, eqb-true, le-ltb, leb-false, leb-true, lt-ltb, ltb-false, ltb-true, not-false, or_parts, true≢false}
pub use Rattle.std.proofs.Math.Bool.{or-true}
pub use Rattle.std.proofs.lemmas.Option.{none-some, same_Some, slice_get_within}
pub use Rattle.std.proofs.Math.Seq.{drop-nil}
pub use Rattle.std.proofs.lemmas.Bool.Decides.{eqb_tells}
pub use Rattle.std.proofs.lemmas.List.{reverse-append}
pub use Rattle.std.specs.List.{list_any}
pub use Rattle.std.specs.Option.{option_map}
pub use Rattle.bn_base.specs.Faults.{fault_number}
pub use Rattle.bn_base.specs.Programs.{Program}
pub use Rattle.bn_base.specs.declared.end_mark.EndMark.{EndMark}
pub use Rattle.bn_base.specs.declared.row.Row.{Row}
pub use Rattle.bn_base.specs.declared.settings.RawSettings.{RawSettings}
pub use Rattle.bn_base.specs.declared.state.HartState.{HartState}
pub use Rattle.hart_replay.specs.Coming.{after_row, given, outcome_only, reply_in, to_come, with_rows, without_rows}
pub use Rattle.hart_replay.specs.Pages.{Frame, Known, word_at}
pub use Rattle.hart_replay.specs.Replay.{Done, Interval, Logged, On, Outcome, Position, Refused, Replayed, Stop, after_ask, after_sc, ask_step, call_reason, ended, fault_end, finish, first, found, interval_from, interval_of, left_over, missing, nothing, one_step, onto, puts, replayed, replayed_in, slot, steps, word_for}
pub use Rattle.hart_replay.specs.declared.error.ReplayError.{ReplayError}
pub use Rattle.hart_replay.specs.declared.error.ReplayError.TheVariants.{EndDiffers, LoadMissing, OutOfMemory, ScMissing}
pub use Rattle.log_order.specs.Content.{Content, IsContent}
pub use Rattle.log_order.specs.Order.{at_place, broken_by, broken_in, has_source, is_from, is_late, is_past, order_break, order_limits_of, step_at, ◌>>=◌}
unfoldable pub use Rattle.log_order.specs.Order.{after_all, broken, end_break, late_edge, step}
pub use Rattle.log_order.specs.Rules.{after_one, goes_on, has_edge, has_end, is_awaited, is_done, is_number, is_unfinished, phase_after, takes_header, takes_other}
unfoldable pub use Rattle.log_order.specs.Rules.{after_edge, after_end, after_header, after_other}
pub use Rattle.log_order.specs.declared.view.HartView.{HartView}
pub use Rattle.log_order.specs.declared.view.OrderLimits.{OrderLimits}
pub use Rattle.log_order.specs.declared.view.Phase.{Phase}
pub use Rattle.log_order.specs.declared.walk.OrderBreak.{OrderBreak}
pub use Rattle.log_record.specs.Spelling.{bytes_of, hart_of, total}
pub use Rattle.log_record.specs.declared.record.Record.{Record}
pub use Rattle.log_record.specs.declared.record.Record.TheVariants.{Edge, End, FirstLoad, Header, ScFailed, ScOk}
pub use Rattle.rv_meaning.specs.Rows.{call_row, fault_row, row_of}
pub use Rattle.rv_meaning.specs.Words.{aligned}
pub use Rattle.rv_meaning.specs.declared.asks.Want.{Want}
pub use Rattle.rv_meaning.specs.declared.asks.Want.TheVariants.{Amo, Cut, Faulted, Load, LoadReserved, Store, StoreConditional, System}
pub use Rattle.joint_replay.specs.Calls.{IsReached, RanOut, StepUnrefused, Steps, bare, bare_cursor, stepped_of}
pub use Rattle.joint_replay.specs.Counts.{RowsFrom}
pub use Rattle.joint_replay.specs.Harts.{HartLane, IsHartLane, Running, hart_cursors, hart_lane, later_cursors, running}
pub use Rattle.joint_replay.specs.Inside.{IsInside, last_of}
pub use Rattle.joint_replay.specs.Intervals.{AreThere, numbers}
pub use Rattle.joint_replay.specs.Joining.{Joining, Ran, Taken, Walk, begun, choice, choice_from, coming, error_of, first_waited, fresh, is_passed, lanes_from, longer, move, next_step, positions_from, ran, readiness, readiness_of, run_all, run_for, run_on, steps_left, waits_for, with_step}
pub use Rattle.joint_replay.specs.Lanes.{Cursor, Doing, Ending, Item, Lane, Passing, coming_of, count_of, cursor_step, cursors_of, cursors_steps, has_row, is_within, lane_of, lane_step, lane_steps, point_of, row_given, with_cursor}
pub use Rattle.joint_replay.specs.Laws.{ChainsAreKept, EdgesAreInside, EdgesAscend, NeverStuck, OrderedLogsHaveShape, PointsAscend, RowsGoOn, SoundnessStays, StartsAreSound, StepsPass}
pub use Rattle.joint_replay.specs.Memory.{Bytes, filled, forget, has_byte, known_from, memory_after, put_access, put_word, word_in}
pub use Rattle.joint_replay.specs.Merges.{Admits, AreMerges, AreSources, AreUnrefused, IsAt, IsAtMerge, IsChosenThere, IsFront, IsMerge, IsNamed, IsPassed, IsReadyThere, IsRefusedAt, IsWhole, PassedIsStanding, PointsAreNamed, ReadyIsAdmitted, SourcesAreThere, Stands, WalksAreMerges, harts_of, interval_then, intervals_items, items_of, one_more, outcome_done, own, point_at, rows_then, steps_of}
pub use Rattle.joint_replay.specs.Moves.{CursorSteps, CursorUnrefused, IsMoved, LaneRefuses, LaneSteps, LaneUnrefused, noted, range_of, stepped_by, told}
pub use Rattle.joint_replay.specs.Orders.{IsAllowed, IsBegun, ready_step, walk_on}
pub use Rattle.joint_replay.specs.Points.{IsThere, first_count, insert, insert_if, intervals_in, is_below, number_in, ordering_points, points_below, sources_into}
pub use Rattle.joint_replay.specs.Shape.{AreSpans, Fits, Span, is_known, mark_of, spans}
pub use Rattle.joint_replay.specs.Sound.{HasEdge, IsSound, SoundIf}
pub use Rattle.joint_replay.specs.Sources.{AscendFrom, edges_into, source_before}
pub use Rattle.joint_replay.specs.Texts.{item_text, stepped_text, steps_text}
unfoldable pub use Rattle.joint_replay.specs.Texts.{pass_text}
pub use Rattle.joint_replay.specs.Together.{AreBegun, AreHarts, AreMet, ArePassed, IsTogether, joining, lanes_of}
pub use Rattle.joint_replay.specs.Ways.{AreCursors, AreFrom, ArePoints, GoesOn, Has, InCursors, IsBelow, IsLane, IsOn, IsRowAt, Passes, PassesIf, last_count}
pub use Rattle.joint_replay.specs.Words.{AreBelow, Remembered, bytes_at, in_front, words_from, words_of}
pub use Rattle.joint_replay.specs.declared.error.JointError.{JointError}
pub use Rattle.joint_replay.specs.declared.error.JointError.TheVariants.{Stuck}
pub use Rattle.joint_replay.specs.declared.incoming_edges.IncomingEdge.{IncomingEdge}
pub use Rattle.joint_replay.specs.declared.intervals.Retained.{Retained}
pub use Rattle.joint_replay.specs.declared.kinds.Coming.{Coming}
pub use Rattle.joint_replay.specs.declared.kinds.Coming.TheVariants.{EndAt, PassAt, RowAt}
pub use Rattle.joint_replay.specs.declared.kinds.Next.{Next}
pub use Rattle.joint_replay.specs.declared.kinds.Next.TheVariants.{AllDone, Hart, NoneReady}
pub use Rattle.joint_replay.specs.declared.kinds.Readiness.{Readiness}
pub use Rattle.joint_replay.specs.declared.lane.Did.{Did}
