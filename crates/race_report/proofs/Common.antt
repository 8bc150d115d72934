-- What several files of proofs/ cite of other crates and of specs/. They import it from here, by one line.
pub use Rattle.std.proofs.Common.{All, Any, Bool, Err, Global, IfSome, IsOk, IsTrue, List, None, Ok, OnOk, Option, Result, Some, Vec, [], ap, append-nil, append_assoc, arith, cond, drop, false, filter, if◌then◌else◌, inl, inr, is_some, length, length-append, map, min, nat_lt, not, refl, rules, slice_get, slice_index, slice_index_or, slice_set, subst, suc, sym, true, zero, ℕ, ◌%◌, ◌&&◌, ◌++◌, ◌+◌, ◌-◌, ◌/◌, ◌<◌, ◌==◌, ◌^◌, ◌||◌, ◌↔◌, ◌∙◌, ◌∷◌, ◌≡◌, ◌≢◌, ◌≤◌, ◌⊎◌}
pub use Rattle.std.proofs.lemmas.Bool.{and_parts, eq-eqb, eqb-false, eqb-true, false≢true, le-ltb, lt-ltb, ltb-false, ltb-true, ne_eqb, not-true, or_cases, true≢false}
pub use Rattle.std.specs.Cmp.{both_ways}
pub use Rattle.std.proofs.Math.Bool.{and-false, and-true, or-false, or-true}
pub use Rattle.std.proofs.lemmas.Option.{same_Some, slice_get-get_or, slice_get_past, slice_get_within}
pub use Rattle.std.specs.List.{flat_map, list_any}
pub use Rattle.std.specs.Option.{option_map}
pub use Rattle.bn_base.specs.Programs.{Program}
pub use Rattle.bn_base.specs.declared.end_mark.EndMark.{EndMark}
pub use Rattle.bn_base.specs.declared.row.Row.{Row}
pub use Rattle.bn_base.specs.declared.state.HartState.{HartState}
pub use Rattle.hart_replay.specs.Pages.{Known, word_at}
pub use Rattle.hart_replay.specs.Replay.{Done, Interval, On, Outcome, Position, Refused, Replayed, Stop, after_ask, after_sc, ask_step, call_reason, ended, fault_end, finish, first, found, interval_of, left_over, missing, one_step, onto, replayed, replayed_in, slot, steps, system_step, word_for}
pub use Rattle.hart_replay.specs.declared.error.ReplayError.{ReplayError}
pub use Rattle.joint_replay.specs.Firsts.{IsFirstStep, RunsByStep}
pub use Rattle.joint_replay.specs.Joining.{Joining, Ran, Taken, Walk, begun, choice, error_of, fresh, is_passed, lanes_from, move, next_step, positions_from, ran, run_all, run_for, steps_left}
pub use Rattle.joint_replay.specs.Lanes.{Cursor, Doing, Ending, Item, Lane, Passing, cursor_step, cursors_of, has_row, lane_of, lane_step, row_given, state_of, with_cursor}
pub use Rattle.joint_replay.specs.Memory.{memory_after}
pub use Rattle.joint_replay.specs.declared.error.JointError.TheVariants.{Stuck}
pub use Rattle.joint_replay.specs.declared.kinds.Next.{Next}
pub use Rattle.joint_replay.specs.declared.kinds.Next.TheVariants.{AllDone, Hart, NoneReady}
pub use Rattle.log_record.specs.declared.record.Record.{Record}
pub use Rattle.race_log.specs.ByCount.{IsInOrder, IsTimesOf, IsUpTo, Leads}
pub use Rattle.race_log.specs.Kept.{In, access_point, accesses_from, after, is_write}
pub use Rattle.race_log.specs.Netzer.{Before, Conflict, Either, ProgramOrder}
pub use Rattle.race_log.specs.Points.{Access, IsConflict, MeetAt, Point, Writes}
pub use Rattle.race_log.specs.Represents.{RepresentsAccesses, harts_of, lasting_of, next_count, next_turn, times_of}
pub use Rattle.race_log.specs.Tests.{clashes, conflict, either, is_conflict, is_same_hart, of_both, program_order}
unfoldable pub use Rattle.race_log.specs.Tests.{any_below, at_places, before, leads}
pub use Rattle.vector_time.specs.Times.{count_of}
pub use Rattle.race_report.specs.Found.{last_meets, lists_in, meeting, met, met_all, met_at, met_harts, met_words, total, total_of, uncovered}
pub use Rattle.race_report.specs.Gathering.{AreFalling, ArePlaces, Follows, IsGathered, IsState, everyone, meets, passes, point_by, sync_of}
pub use Rattle.race_report.specs.Kept.{IsTracked, lists_of}
pub use Rattle.race_report.specs.Laws.{AreAlike, AreCounted, Ascend, HaveOwnRows, IsRaceBefore, IsRaceOf, IsRowBefore, PointsAreCounted, PointsHaveOwnRows, RacesAreListed, RacesAscend, RacesGoByConflicts, TestsSayRaces}
pub use Rattle.race_report.specs.Points.{Accessing, IsTouch, accesses_of, accessing, asked_by, is_atomic, loaded_touch, or_else, point_in, points_of, touch_of, word_with, words_from}
pub use Rattle.race_report.specs.Races.{IsLowest, IsOrdered, IsRace, count_below, is_apart, is_at, least_from, lesser, meeting_at, meetings_of, race_by, race_count, race_if, race_word, races_by_first, races_by_place, races_by_second, races_of, races_with, row_if, row_of, shared, sync_point, syncs_from, whole_point, with_accesses}
unfoldable pub use Rattle.race_report.specs.Races.{meetings_below, race_at}
pub use Rattle.race_report.specs.Reports.{Advances, Gathers, GathersInto, GathersRest, HasState, IsOnTheWay, IsReport, IsUnrefused, RanOutOfMemory, Stops, TakesRow, TellsReport}
pub use Rattle.race_report.specs.Tracks.{AreBelow, AreLinked, IsChain, IsTrackedIn, head_at, known_at, noted, noted_one, room_at, room_in}
pub use Rattle.race_report.specs.declared.gathered.Gathered.{Gathered}
pub use Rattle.race_report.specs.declared.meeting.Meeting.{Meeting}
pub use Rattle.race_report.specs.declared.race.Race.{Race}
pub use Rattle.race_report.specs.declared.touch.Touch.{Touch}
pub use Rattle.race_report.specs.declared.track.Track.{Track}
pub use Rattle.race_report.specs.declared.track.TrackEntry.{TrackEntry}
