-- What several files of proofs/ cite of other crates and of specs/. They import it from here, by one line.
pub use Rattle.std.proofs.Common.{Bool, Err, Global, IfOk, IfSome, IsErrAnd, IsSome, List, None, Ok, Option, Result, Some, Vec, [], ap, append-nil, append_assoc, arith, bytes_eq, codes, drop, false, filter, if◌then◌else◌, inl, inr, is_some, length, map, nat_le, nat_lt, not, option_map, refl, replicate, slice_get, slice_index, slice_set, subst, suc, sym, take, take-append-drop, true, unwrap_or, zero, ℕ, ◌%◌, ◌&&◌, ◌*◌, ◌++◌, ◌+◌, ◌-◌, ◌<◌, ◌==◌, ◌^◌, ◌||◌, ◌∙◌, ◌∷◌, ◌≡◌, ◌≢◌, ◌≤◌, ◌⊎◌}
pub use Rattle.std.proofs.lemmas.Bool.Decides.{nat_tests}
pub use Rattle.std.proofs.lemmas.Slice.Eq.{bytes_eq-Decides}
pub use Rattle.std.specs.Io.KnownBytes.{Appends, Consumes}
pub use Rattle.back_step.specs.Traces.{Trace, Trailed, at_start, cut, entry_of, harts_of, trace_step, with_entry}
pub use Rattle.bn_base.specs.Faults.{fault_number}
pub use Rattle.bn_base.specs.Programs.{Program}
pub use Rattle.bn_base.specs.Ranges.{IsSetting, bad_or, checked_by, first_bad, is_between, is_memory_size, is_second_sets, is_second_ways, is_small_power, most_harts}
pub use Rattle.bn_base.specs.declared.end_mark.EndMark.{EndMark}
pub use Rattle.bn_base.specs.declared.row.Row.{Row}
pub use Rattle.bn_base.specs.declared.settings.BadSetting.{BadSetting}
pub use Rattle.bn_base.specs.declared.settings.RawSettings.{RawSettings}
pub use Rattle.bn_outside.specs.Counts.{Counts, NoneFell, Rose}
pub use Rattle.bn_outside.specs.Files.{Files, Stored, WhereTold}
pub use Rattle.bn_outside.specs.Streams.{AppendsPart, ConsumesAll, ReadNote, Stream, Supply}
pub use Rattle.bn_outside.specs.declared.schedule.Schedule.{Schedule}
pub use Rattle.bus_core.specs.Bus.{Began, began_of, marks}
pub use Rattle.command_words.specs.Words.{AuditLine, CheckLine, ConvertLine, DebugLine, DemoLine, JointLine, Line, ListLine, RacesLine, RecordLine, RecordingLine, ReplayLine, SalvageLine, SliceLine, command_in, seen, seen_recording}
pub use Rattle.command_words.specs.declared.commands.RecordOptions.{RecordOptions}
pub use Rattle.command_words.specs.declared.error.WordsError.{WordsError}
pub use Rattle.demo_run.specs.Demonstration.{demo_text}
pub use Rattle.elf_loader.specs.Loaded.{image_of}
pub use Rattle.elf_loader.specs.declared.error.ElfError.{ElfError}
pub use Rattle.file_laws.specs.Given.{IsRecording}
pub use Rattle.file_laws.specs.Laws.{LogsAreContents, SalvagedFilesSuffice}
pub use Rattle.hart_replay.specs.Replay.{Done, Interval, Logged, On, Outcome, Position, Refused, Replayed, after_ask, after_sc, ask_step, call_reason, fault_end, finish, first, found, interval_from, interval_of, left_over, missing, nothing, one_step, puts, replayed, replayed_in, slot, steps, system_step, taken_from, word_for}
pub use Rattle.hart_replay.specs.Scans.{mark_in}
pub use Rattle.hart_replay.specs.declared.error.ReplayError.{ReplayError}
pub use Rattle.hart_replay.specs.declared.error.ReplayError.TheVariants.{EndDiffers, NoInterval, RecordsLeft, ScMissing}
pub use Rattle.joint_laws.specs.Laws.{IsNotRefused, JointReplaysSayTheRun, ReachedSayTheRun, SaysTheRun}
pub use Rattle.joint_laws.specs.Recordings.{IsLogOf, OfBeginnings, Recording, begin}
pub use Rattle.joint_replay.specs.Joining.{Joining, Ran, Walk, begun, choice, error_of, fresh, lanes_from, longer, move, next_step, positions_from, ran, readiness, run_all, run_for, steps_left}
pub use Rattle.joint_replay.specs.Lanes.{Cursor, Item, Lane, cursor_step, cursors_of, lane_step, with_cursor}
pub use Rattle.joint_replay.specs.Orders.{IsBegun, ready_step, walk_on}
pub use Rattle.joint_replay.specs.Texts.{joint_text}
pub use Rattle.joint_replay.specs.declared.error.JointError.{JointError}
pub use Rattle.joint_replay.specs.declared.error.JointError.TheVariants.{Replay, Stuck}
pub use Rattle.joint_replay.specs.declared.kinds.Next.{Next}
pub use Rattle.joint_replay.specs.declared.kinds.Readiness.{Readiness}
pub use Rattle.le_numbers.specs.Numbers.{AreBytes}
pub use Rattle.log_blocks.specs.Faults.{is_second}
pub use Rattle.log_blocks.specs.Laws.{AreFew, SavedHaveTheirLimit, pieces_of}
pub use Rattle.log_blocks.specs.Readings.{AreReadOrRefused, AreSalvagedOrRefused, FilesAreRead, ReadingsAreUnique, Reads, Salvages, SalvagesAreUnique, WholeAreSalvaged}
pub use Rattle.log_blocks.specs.declared.damage.Damage.{Damage}
pub use Rattle.log_blocks.specs.declared.damage.SalvageError.{SalvageError}
pub use Rattle.log_commands.proofs.Acts.{closed-done, none-fell}
pub use Rattle.log_commands.proofs.Answered.{loads-give, loads-stop, with-also}
pub use Rattle.log_commands.proofs.Answering.{passed-on}
pub use Rattle.log_commands.proofs.Causes.{Causes, answer-words, by-words, caused, memory-words, refusal-causes, refusal-words}
pub use Rattle.log_commands.proofs.Fetched.{fell-later, only-first, only-then}
pub use Rattle.log_commands.proofs.FileCalls.{ends-behind, load-stops, loads-alone, noted-append, own-loads, then-loads}
pub use Rattle.log_commands.proofs.Loads.{by-bytes, fits, loaded, made-stopped, of_false}
pub use Rattle.log_commands.proofs.Prints.{appends-nothing, part-longer, part-none, part-whole, rose-later}
pub use Rattle.log_commands.proofs.SaveCounts.{memory-saves, no-saves, none-saved}
pub use Rattle.log_commands.proofs.StatusesApart.{apart, refused-apart, told-apart}
pub use Rattle.log_commands.proofs.Tells.{from, memory, memory-names, memory-or-store, refused-told, same-files, stopped-free, stopped-told, tells-few, tells-from, tells-keeps, unsaved-free, untouched, with-any, with-files}
pub use Rattle.log_commands.specs.Acting.{ActsTo, with_err}
pub use Rattle.log_commands.specs.Answering.{Answers, IsByFiles}
pub use Rattle.log_commands.specs.Audits.{Agrees, IsAuditOf, audited, by_turns, by_verdict, roles_of, shown}
pub use Rattle.log_commands.specs.Commands.{Either, IsByFile, IsByInput, IsByLog, by_log, check_of, interval_told, list_of, replay_found, replay_with}
unfoldable pub use Rattle.log_commands.specs.Commands.{WithFile, ended}
pub use Rattle.log_commands.specs.Effects.{Acts, AreKept, Call, GivesStatus, IsByWords, IsFree, IsUnsaved, NoWriteFell, SomeTold, StoppedBy, Tells, World, between, printing_on, world}
pub use Rattle.log_commands.specs.Evaluated.{told_by}
pub use Rattle.log_commands.specs.FileCalls.{CallsBy, CallsTo, FileCall, IsOfContent, IsOfSave, LoadsTo, LoadsUpTo, Note, SaveRefused, Saves, SavesTold, StopsAt, elf_roles, has_save, input_roles, loads_of, noted_after, record_roles, saved_in, saves_in, saves_of}
pub use Rattle.log_commands.specs.Inputs.{Bytes, IsLoaded, input_by, limit_of, no_bytes, put}
pub use Rattle.log_commands.specs.Joined.{CanJoin, joined, joint_with}
unfoldable pub use Rattle.log_commands.specs.Joined.{ran_told}
pub use Rattle.log_commands.specs.Names.{FileNames, name_of, no_names}
pub use Rattle.log_commands.specs.NewLogs.{IsBySalvage, by_salvage, renewed}
pub use Rattle.log_commands.specs.Outside.{CauseBy, FetchTells, GivesBy, GivesOf, IsEarly, IsPrinted, KeptFiles, KeptSaved, MayChange, ProgramTells, RefusalCause, Refuses, ResultCause, SameFiles, SendStops, ToldRefusal, WithFiles, Wrote, book_in, told_of, told_of_recording}
pub use Rattle.log_commands.specs.Pairs.{ArePair, ByPair, HasPair, HoldsLog, IsPair, IsPairOf, LoadedPair, pair_loaded, pair_of, pair_roles, pair_same}
pub use Rattle.log_commands.specs.RaceAnswers.{CanRace, races_in, races_listed, races_unless, races_with}
pub use Rattle.log_commands.specs.Refusals.{joint_refusal, name_refusal, replay_status, status_of}
pub use Rattle.log_commands.specs.RunEnds.{IsRecorded, end_status, end_word}
pub use Rattle.log_commands.specs.SaveCounts.{AnswerSaves, IsMade, IsRecordedRun, IsRenewed, SavedAll, SavesEach, is_lean}
pub use Rattle.log_commands.specs.SliceAnswers.{CanSlice, slice_told, slice_with}
pub use Rattle.log_commands.specs.Statuses.{code}
pub use Rattle.log_commands.specs.Texts.{agree_text, interval_text, record_text, summary_text}
unfoldable pub use Rattle.log_commands.specs.Texts.{list_text}
pub use Rattle.log_commands.specs.Told.{Saved, Told, printed, printed_until}
unfoldable pub use Rattle.log_commands.specs.Told.{refused}
pub use Rattle.log_commands.specs.declared.answer.Answer.{Answer}
pub use Rattle.log_commands.specs.declared.answer.Answer.TheVariants.{Agreed, Checked, Joined, Recorded, Renewed, Shown}
pub use Rattle.log_commands.specs.declared.answer.RunEnd.{RunEnd}
pub use Rattle.log_commands.specs.declared.answer.RunToTell.{RunToTell}
pub use Rattle.log_commands.specs.declared.names.Role.{Role}
pub use Rattle.log_commands.specs.declared.pairs.JointReading.{JointReading}
pub use Rattle.log_commands.specs.declared.refusal.Refusal.{Refusal}
pub use Rattle.log_commands.specs.declared.refusal.Refusal.TheVariants.{BookRefused, ElfRefused, FileDiffers, LogRefused, Missing, OutOfMemory, OutOfRange, ProgramDiffers, ReplayStopped, SameName, TooLong, WordsRefused}
pub use Rattle.log_commands.specs.declared.status.Status.{Status}
pub use Rattle.log_file.specs.Layout.{file_bytes, file_bytes2, saved_bytes}
pub use Rattle.log_order.specs.Content.{Content, IsContent, content}
pub use Rattle.log_record.specs.Spelling.{bytes_of, hart_of, total}
pub use Rattle.log_record.specs.declared.head.Head.{Head}
pub use Rattle.log_record.specs.declared.record.Record.{Record}
pub use Rattle.log_record.specs.declared.record.Record.TheVariants.{Edge, End, FirstLoad, Header, ScFailed, ScOk}
pub use Rattle.race_report.specs.Races.{race_count, races_of}
pub use Rattle.race_report.specs.Reports.{points_in}
pub use Rattle.replay_laws.specs.Law.{EndsSuffice, IsWhole, RowsStandTogether}
pub use Rattle.run_files.specs.Audits.{FilesNumberTheirVersion, IsVerdict, VerdictsAreUnique, audited_file, bytes_in, is_version2, verdict_of, version2_of}
pub use Rattle.run_files.specs.Files.{file_of}
pub use Rattle.run_files.specs.declared.verdict.Verdict.{Verdict}
pub use Rattle.run_files.specs.declared.verdict.Verdict.TheVariants.{Agree, Differ}
pub use Rattle.run_laws.specs.Laws.{KeptIsAnEnd, OwnAsksAreOrderly}
pub use Rattle.run_laws.specs.Retained.{FaultsAreKept, HasEnded, IsGuarding}
pub use Rattle.run_model.specs.KeptRecords.{IsEndOf, content_of, dropped_of, kept_of}
pub use Rattle.run_model.specs.Lists.{list_error}
pub use Rattle.run_model.specs.Runs.{is_live, legal_from, run_from, run_of, seeded, start}
pub use Rattle.run_model.specs.Turn.{Run, after_access, after_call, ask_at, by_guard, counted, guard_records, guarded_run, hart_after, harts_after, is_guarded, is_orderly, mark, next_of, other_after, serve_orderly, served_if, stopped, turn}
unfoldable pub use Rattle.run_model.specs.Turn.{serve}
pub use Rattle.run_model.specs.declared.error.TurnError.{TurnError}
pub use Rattle.run_model.specs.declared.start.Start.{Start}
pub use Rattle.rv_meaning.specs.Execute.{Asks, Quiet, Step, absorbed, step}
pub use Rattle.rv_meaning.specs.declared.asks.Ask.{Ask}
pub use Rattle.rv_meaning.specs.declared.asks.Want.{Want}
pub use Rattle.rv_meaning.specs.declared.asks.Want.TheVariants.{Amo, Faulted, Load, LoadReserved, Store, StoreConditional, System}
pub use Rattle.sha2.specs.Sha256.{sha256}
pub use Rattle.slice_back.specs.Texts.{text_of}
pub use Rattle.step_debugger.specs.Answers.{Moves, Session, address_text, answer, back_by, back_to, back_to_stop, begin_at, break_limit, go_by, go_for, go_on, go_past, hart_text, is_set, moved, places_from, registers_text, says, step_by, step_up_to, stop_below, stop_unless, unknown, word_text}
pub use Rattle.step_debugger.specs.Commands.{command_of}
pub use Rattle.step_debugger.specs.Lines.{Input, RefusalsStay, ends_in, input_from, input_limit, input_of, is_line_feed, is_too_long, with_line}
pub use Rattle.step_debugger.specs.Transcript.{Debugged, Debugs, EndsAll, EndsThere, IsReadOnce, StopsAtEnd, StopsAtLine, StopsInLine, answers, goes_on_by, lines_in, result_by, transcript, transcript_from, EndsWithLine, ReadsUpTo}
pub use Rattle.step_debugger.specs.declared.command.DebugCommand.{DebugCommand}
pub use Rattle.step_debugger.specs.declared.error.DebugError.{DebugError}
pub use Rattle.step_debugger.specs.declared.session.Ending.{Ending}
pub use Rattle.step_debugger.specs.declared.stop.Stop.{Stop}
pub use Rattle.whole_runs.specs.Laws.{ScheduledListsEnd, SeededListsEnd, WholeRunsHaveNoError}
pub use Rattle.bugnet.specs.Agreements.{AuditsAgree, AuditsRun}
pub use Rattle.bugnet.specs.Answers.{IsAnswer, IsByLine, IsOn, KindOf, UnlessRefused, line_roles, names_by, names_in, refusal_by, refusal_in, scheduling_by, setting_refusal, words_refusal}
pub use Rattle.bugnet.specs.Asks.{FitsLine, LineSaves}
pub use Rattle.bugnet.specs.ClosedRuns.{IsRecordingBy, IsRecordingOf}
pub use Rattle.bugnet.specs.Command.Record.{IsByNames, IsByProgram, IsBySettings, IsRecord, is_clash}
pub use Rattle.bugnet.specs.Complete.{CanBeDone, CanRecord, EachCanBeDone, EachHasAnAnswer, HasContent, HasSecond, IsDone}
pub use Rattle.bugnet.specs.Crashes.{CrashesAreShown, HasLine, IsCrash, ShowsCrash, mark_of_crash}
pub use Rattle.bugnet.specs.DebugSessions.{ConvertedHaveTheirLimit, DebugsFiles, DoneSession, PrefixesCanBeDebugged, RecordingsCanBeDebugged, SessionIs, SessionsShowTheRun, ShowsRun, ShowsSession, session_after, session_of}
pub use Rattle.bugnet.specs.Headline.{Headline, IsReplayed, Part, PrintsRun, RecordingsAreReplayed, RecordingsSayEnds, ReplaysRun, SaysEnd, interval_rows, part_of, run_text}
pub use Rattle.bugnet.specs.Jointly.{DoneJointly, HasRun, IsJoined, JoinsRun, JointHeadline, PrintsJointly, RecordingsAreJoined, RecordingsCanBeJoined, TellsRun, joint_run, recording_of}
pub use Rattle.bugnet.specs.Laws.{AreAlike, AreOfOneList, FilesKeepToTheirSize, IsNoRecording, IsNoSession, IsReadOnly, NeedsNoThreads, OneAnswer, OneSession, SchedulesAreWhole, SeedsAreWhole, TakesAlike, book_of}
pub use Rattle.bugnet.specs.LineAnswers.{AnswersLine}
pub use Rattle.bugnet.specs.LineCalls.{AnswersDemo, CallsOnly, CallsSo, HasShape, IsSaved, MaySave, RefusedAfter, TellsDemo, TellsRefusal, calls_of, is_printed, is_recorded, is_replayed, line_past, needed_of, needed_roles, past_of}
pub use Rattle.bugnet.specs.Recordings.{AreScheduled, AreTaken, IsRun, Scheduling, began_by, book_if, end_by, instructions_of, is_fault, is_limit, marks_of, recorded, taken_by}
unfoldable pub use Rattle.bugnet.specs.Recordings.{told_run}
pub use Rattle.bugnet.specs.Program.{Runs}
pub use Rattle.bugnet.specs.Replies.{Does, DoesTo, RepliesTo, with_end}
pub use Rattle.bugnet.specs.Run.{ByWords, ChangesFew, IsCounted, Keeps, Obeys, StoppedEarly, TellsAnswer}
pub use Rattle.bugnet.specs.Saves.{HasElf, HasList, HoldsBytes, KeepsSchedule, Leaves, LeavesRun, SameButSaved, TellsEnd}
pub use Rattle.bugnet.specs.Sessions.{AreRead, CanDebug, Commands, EndsBy, EndsWithQuit, IsDebug, IsSession, IsUnread, NoQuit, NoneEnds, Reading, ReadsAll, ReadsOnce, SessionOver, SessionReads, debug_with, input_in, is_begun, reading, session_line, session_status, stop_status, whole_input}
unfoldable pub use Rattle.bugnet.specs.Sessions.{session_told}
pub use Rattle.bugnet.specs.Starts.{BeginsBy, LoadsStart}
pub use Rattle.bugnet.specs.Steps.{DebugsEnds, DebugsNamed, DebugsPair, DebugsTo, SessionEnds, ToldStop}
