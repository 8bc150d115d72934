-- What several files of proofs/ cite of other crates and of specs/. They import it from here, by one line.
pub use Rattle.std.proofs.Common.{Bool, Err, Global, IfErr, IfOk, IsErrAnd, IsSomeAnd, List, None, Ok, OnErr, OnOk, Option, Result, Some, Vec, [], add-one, ap, append-nil, append_assoc, arith, codes, drop, drop-cons, false, get_or, inl, inr, is_some, length, length-append, nat_lt, not, option_map, refl, rules, subst, suc, sym, take, take_all, true, ℕ, ◌++◌, ◌+◌, ◌<◌, ◌∙◌, ◌∷◌, ◌≡◌, ◌≢◌, ◌≤◌, ◌⊎◌}
pub use Rattle.std.proofs.lemmas.Bool.{cases_lt}
pub use Rattle.std.proofs.lemmas.Bool.Decides.{nat_tests}
pub use Rattle.std.proofs.lemmas.List.{drop_all, take-append-le}
pub use Rattle.std.proofs.lemmas.Slice.Eq.{bytes_eq-Decides}
pub use Rattle.std.specs.Io.KnownBytes.{Appends}
pub use Rattle.std.specs.Str.{bytes_eq}
pub use Rattle.bn_base.specs.Programs.{Program}
pub use Rattle.bn_base.specs.declared.end_mark.EndMark.{EndMark}
pub use Rattle.bn_outside.specs.Counts.{Counts, NoneFell, Rose, counted}
pub use Rattle.bn_outside.specs.Files.{Files, SameElsewhere, Stored, WhereTold}
pub use Rattle.bn_outside.specs.StoreCalls.{LoadCall, SaveCall, StoreCall}
pub use Rattle.bn_outside.specs.Streams.{AppendsPart, AppendsShort, Stream}
pub use Rattle.hart_replay.specs.Coming.{Replaying, Stepped, outcome_only, with_rows}
pub use Rattle.hart_replay.specs.Replay.{Done, Outcome, Refused, Replayed, interval_of}
pub use Rattle.hart_replay.specs.declared.error.ReplayError.{ReplayError}
pub use Rattle.joint_replay.specs.Joining.{Joining, Ran, begun, ran, run_all, steps_left}
pub use Rattle.joint_replay.specs.Memory.{known_from}
pub use Rattle.joint_replay.specs.Runs.{Advanced, Advances, IsFirstTaken, IsStarved, RunsEnd, RunsGoOn, one_step}
pub use Rattle.joint_replay.specs.Texts.{item_text, joint_text, known_text, memory_text, steps_text}
pub use Rattle.joint_replay.specs.declared.error.JointError.{JointError}
pub use Rattle.log_blocks.specs.File.{IsRefusal, IsSalvageRefusal}
pub use Rattle.log_blocks.specs.Readings.{Reads}
pub use Rattle.log_blocks.specs.declared.damage.Damage.{Damage}
pub use Rattle.log_file.specs.declared.counting.LogCounts.{LogCounts}
pub use Rattle.log_order.specs.Content.{Content}
pub use Rattle.log_record.specs.declared.record.Record.{Record}
pub use Rattle.sha2.specs.Sha256.{sha256}
pub use Rattle.log_commands.specs.Acting.{ActsOn, ActsTo, SavesAll, SavesFile, StopsSaving, with_err}
pub use Rattle.log_commands.specs.Answering.{Answers, IsByFiles, LoadsAll}
pub use Rattle.log_commands.specs.Audits.{audit_by, audited, shown}
pub use Rattle.log_commands.specs.Commands.{Either, IsByFile, IsByLog, by_log, check_of, list_of, replay_found, replay_with}
unfoldable pub use Rattle.log_commands.specs.Commands.{WithFile, ended}
pub use Rattle.log_commands.specs.Effects.{Acts, AreKept, Call, ErrStopped, ErrWaits, IsByWords, IsFree, IsUnsaved, NoWriteFell, OutStopped, Prints, PrintsTo, SavingStopped, Stopped, Tells, World, between, done_of, printing_on, world}
pub use Rattle.log_commands.specs.Evaluated.{IsPairOfBytes, Makes, pair_by, told_by, where_same, with_image}
pub use Rattle.log_commands.specs.FileCalls.{CallsTo, EndsWith, FileCall, IsOfLoad, IsOfSave, Loads, LoadsTo, LoadsUpTo, Note, Saves, SavesTo, SavesTold, SavesUpTo, StopsAt, book_saves, has_save, loads_of, noted_after, saves_in, saves_of, store_call}
pub use Rattle.log_commands.specs.Inputs.{Bytes, IsLoaded, Misses, OnlyLoads, bytes_of, file_bytes, limit_of, loaded, loaded_with, no_bytes, on_bytes, put, unless_long}
pub use Rattle.log_commands.specs.Joined.{joined, joint_with, stop_of}
unfoldable pub use Rattle.log_commands.specs.Joined.{ran_told}
pub use Rattle.log_commands.specs.JointEnds.{IsOutOfMemory, SendsJoint, SendsSteps, told_of_joint}
pub use Rattle.log_commands.specs.Names.{FileNames, name_of, no_names}
pub use Rattle.log_commands.specs.NewLogs.{IsBySalvage, renewed, salvage_refusal}
pub use Rattle.log_commands.specs.Outside.{Always, CauseBy, FetchTells, Gathered, Gives, GivesOf, GivesTo, IsOwn, IsPrinted, KeptBoth, KeptFiles, KeptLog, KeptSaved, LogAlone, LogTells, MayChange, RefusalCause, Refuses, ResultCause, SameFiles, SaveBroke, SendStops, Sends, SendsBytes, SendsUntil, Sent, SentUntil, ToldRefusal, Unsaved, WithFiles, Wrote, none_if, saved_new, saved_of, told_of, told_of_new, told_of_reading, told_of_recording, without}
pub use Rattle.log_commands.specs.PairAnswers.{LoadsPair, by_reading}
pub use Rattle.log_commands.specs.Pairs.{ByPair, LoadedPair, pair_loaded, pair_of, pair_roles, pair_same}
pub use Rattle.log_commands.specs.Printed.{IsCutShort, LacksALine, SendsReplay, end_of_interval, ending_of, outcome_of, rest_text, text_from}
pub use Rattle.log_commands.specs.RaceAnswers.{races_in, races_listed, races_unless, races_with}
pub use Rattle.log_commands.specs.Refusals.{digest_text, joint_refusal, log_refusal, positions_text, replay_status, status_of}
unfoldable pub use Rattle.log_commands.specs.Refusals.{elf_said, file_said, line_of, replay_said, said_of}
pub use Rattle.log_commands.specs.RunEnds.{IsRecorded, end_status}
pub use Rattle.log_commands.specs.SaveCounts.{AnswerSaves, AtMostSaves, IsMade, IsRenewed, SavedAll, SavesEach, is_lean, saves_after}
pub use Rattle.log_commands.specs.SliceAnswers.{slice_told, slice_with}
pub use Rattle.log_commands.specs.Texts.{check_line, record_text}
unfoldable pub use Rattle.log_commands.specs.Texts.{begin_text, list_text, rows_text}
pub use Rattle.log_commands.specs.Told.{Saved, Told, printed, printed_until}
unfoldable pub use Rattle.log_commands.specs.Told.{refused}
pub use Rattle.log_commands.specs.declared.answer.Answer.{Answer}
pub use Rattle.log_commands.specs.declared.answer.Answer.TheVariants.{Agreed, Checked, Interval, Joined, Listed, Recorded, Renewed, Shown}
pub use Rattle.log_commands.specs.declared.answer.NewLog.{NewLog}
pub use Rattle.log_commands.specs.declared.answer.RunToTell.{RunToTell}
pub use Rattle.log_commands.specs.declared.inputs.Inputs.{Inputs}
pub use Rattle.log_commands.specs.declared.names.Role.{Role}
pub use Rattle.log_commands.specs.declared.names.Role.TheVariants.{Book, Elf, Log}
pub use Rattle.log_commands.specs.declared.pairs.JointReading.{JointReading}
pub use Rattle.log_commands.specs.declared.refusal.Refusal.{Refusal}
pub use Rattle.log_commands.specs.declared.refusal.Refusal.TheVariants.{CommandsTooLong, LineTooLong, LogRefused, Missing, OutOfMemory, OutOfRange, ReadFailed, ReplayStopped, SameName, StoreFailed, TooLong, TooManyRaces, WordsRefused, WriteFailed}
pub use Rattle.log_commands.specs.declared.replay_lines.ReplayEnd.{ReplayEnd}
