-- What several files of proofs/ cite of other crates and of specs/. They import it from here, by one line.
pub use Rattle.std.proofs.Common.{Any, Bool, List, None, Option, Some, [], ap, arith, cond, eq-eqb, eqb-true, false, inl, inr, is_some, length, ltb-true, map, nat_le, nat_lt, refl, slice_get, slice_index, subst, suc, sym, take, true, zero, ℕ, ◌%◌, ◌&&◌, ◌*◌, ◌++◌, ◌+◌, ◌/◌, ◌<◌, ◌==◌, ◌^◌, ◌||◌, ◌↔◌, ◌∙◌, ◌∷◌, ◌≡◌, ◌≤◌, ◌⊎◌}
pub use Rattle.std.proofs.lemmas.Bool.{and_parts, leb-true, or_cases}
pub use Rattle.std.proofs.lemmas.Option.{none-some}
pub use Rattle.joint_replay.proofs.Soundness.{some_is}
pub use Rattle.std.specs.List.{flat_map, list_any, range_with_len}
pub use Rattle.bn_base.specs.declared.fault.Fault.{Fault}
pub use Rattle.bn_base.specs.declared.row.Row.{Row}
pub use Rattle.bn_base.specs.declared.settings.RawSettings.{RawSettings}
pub use Rattle.bn_base.specs.declared.state.HartState.{HartState}
pub use Rattle.elf_loader.specs.Laws.{LoadedProgramsAreImages}
pub use Rattle.joint_laws.specs.Laws.{DoesRetained, JointReplaysSayTheRun, OwnLogsAreLogs, SaysTheRun}
pub use Rattle.joint_laws.specs.Recordings.{IsLogOf, IsRecorded, OfBeginnings, Recording, begin, first_state, kept, points_of, recorded, retained_rows, rows_of_hart}
pub use Rattle.joint_laws.specs.Steps.{DidPoint, row_in, rows_done}
pub use Rattle.joint_replay.specs.Joining.{Taken, run_all}
pub use Rattle.joint_replay.specs.Lanes.{Doing, Item}
pub use Rattle.log_record.specs.declared.record.Record.{Record}
pub use Rattle.race_laws.specs.Laws.{HasOrder}
pub use Rattle.race_laws.specs.Runs.{OfLists}
pub use Rattle.race_log.specs.ByCount.{IsInOrder, StandByCounts}
pub use Rattle.race_log.specs.Kept.{In, access_point, accesses_from, is_write}
pub use Rattle.race_log.specs.Points.{Access, IsConflict, MeetAt, Point}
pub use Rattle.race_report.proofs.Touched.{Touched}
pub use Rattle.race_report.specs.Laws.{AreAlike, AreCounted, HaveOwnRows, IsRaceOf, PointsAreCounted, RacesAreListed, RacesAscend, RacesGoByConflicts}
pub use Rattle.race_report.specs.Points.{Accessing, accesses_of, accessing, call_touch, is_atomic, loaded_touch, or_else, point_in, sent, touch_of, word_with, words_from, words_with}
pub use Rattle.race_report.specs.Races.{races_of, whole_point}
unfoldable pub use Rattle.race_report.specs.Races.{meetings_below, race_at}
pub use Rattle.replay_laws.specs.Law.{RowsAreCounted}
pub use Rattle.row_laws.specs.Laws.{PointsAreOfTurns, RowsTellRuns, RunCallsAccess, RunRowsTellWords, TurnRowsAreRows}
pub use Rattle.row_laws.specs.States.{AreRowsFrom, IsRowOfTurn, RunHasRow, state_after}
pub use Rattle.run_model.specs.Runs.{is_live, legal_from, start}
pub use Rattle.report_laws.specs.Laws.{ConflictsStandAsRecorded, PointsAreRecorded, RacesSayTheRun, ReportsSayTheRun, SayTheRun, StandAsRecorded, replayed_points}
pub use Rattle.report_laws.specs.Recorded.{IsPointOf, accessing_at, is_kept, kept_at}
unfoldable pub use Rattle.report_laws.specs.Recorded.{recorded_points}
