-- What several files of specs/ and src/ cite of other crates. They import it from here, by one line.
pub use Rattle.std.specs.Io.KnownBytes.{Appends, Consumes}
pub use Rattle.std.specs.List.{AllByRecursion, list_any}
pub use Rattle.std.specs.Str.{bytes_eq}
pub use Rattle.back_step.specs.Traces.{at_start}
pub use Rattle.bn_base.specs.Programs.{Program}
pub use Rattle.bn_base.specs.Ranges.{first_bad}
pub use Rattle.bn_base.specs.declared.end_mark.EndMark.{EndMark}
pub use Rattle.bn_base.specs.declared.settings.BadSetting.{BadSetting}
pub use Rattle.bn_base.specs.declared.settings.RawSettings.{RawSettings}
pub use Rattle.bn_outside.specs.Counts.{NoneFell, Rose}
pub use Rattle.bn_outside.specs.Files.{Files, SameElsewhere, Stored, WhereTold}
pub use Rattle.bn_outside.specs.Streams.{ConsumesAll, ReadNote, Stream, Supply}
pub use Rattle.bn_outside.specs.declared.schedule.Schedule.{Schedule}
pub use Rattle.bus_core.specs.Bus.{Began, began_of, marks}
pub use Rattle.command_words.specs.Words.{AuditLine, CheckLine, ConvertLine, DebugLine, DemoLine, JointLine, Line, ListLine, RacesLine, RecordLine, RecordingLine, ReplayLine, SalvageLine, SliceLine, command_in, seen, seen_recording}
pub use Rattle.demo_run.specs.Demonstration.{demo_text}
pub use Rattle.elf_loader.specs.Loaded.{image_of}
pub use Rattle.file_laws.specs.Given.{IsRecording}
pub use Rattle.hart_replay.specs.Replay.{Interval, interval_of}
pub use Rattle.joint_laws.specs.Laws.{SaysSoFar, SaysTheRun}
pub use Rattle.joint_laws.specs.Recordings.{IsLogOf, Recording, begin, interval_rows, kept}
pub use Rattle.joint_replay.specs.Joining.{Joining, Ran, Walk, run_all}
pub use Rattle.le_numbers.specs.Numbers.{AreBytes}
pub use Rattle.log_commands.specs.Answering.{Answers, IsByFiles}
pub use Rattle.log_commands.specs.Audits.{Agrees, IsAuditOf, roles_of}
pub use Rattle.log_commands.specs.Commands.{Either, IsByInput, IsByLog, WithFile, check_of, list_of, replay_with}
pub use Rattle.log_commands.specs.Effects.{Call, GivesStatus, IsByWords, IsFree, IsUnsaved, NoWriteFell, SomeTold, StoppedBy, Tells, WriteRose, between, call, done_of, printing_on, world}
pub use Rattle.log_commands.specs.FileCalls.{CallsBy, CallsTo, FileCall, Note, StopsAt, elf_roles, has_save, input_roles, loads_of, log_roles, noted_after, origin_roles, record_roles, saves_of}
pub use Rattle.log_commands.specs.Inputs.{Bytes, OnlyLoads, bytes_of, input_by, no_bytes}
pub use Rattle.log_commands.specs.Joined.{CanJoin, joined, joint_with}
pub use Rattle.log_commands.specs.Names.{FileNames, no_names}
pub use Rattle.log_commands.specs.Outside.{CauseBy, GivesBy, IsEarly, IsPrinted, KeptFiles, MayChange, SameBut, SameFiles, ToldRefusal, WithFiles, Wrote, book_in, told_of, told_of_recording}
pub use Rattle.log_commands.specs.Pairs.{ArePair, HasPair, HoldsLog, IsPair, LoadedPair, pair_of, pair_roles}
pub use Rattle.log_commands.specs.RaceAnswers.{CanRace, races_listed, races_with}
pub use Rattle.log_commands.specs.Refusals.{joint_refusal, line_of, name_refusal, status_of}
pub use Rattle.log_commands.specs.RunEnds.{IsRecorded, end_status, end_word}
pub use Rattle.log_commands.specs.SaveCounts.{IsMade, IsRecordedRun, IsRenewed, SavesEach, is_lean}
pub use Rattle.log_commands.specs.SliceAnswers.{CanSlice, slice_told, slice_with}
pub use Rattle.log_commands.specs.Statuses.{code}
pub use Rattle.log_commands.specs.Texts.{begin_text, interval_text, rows_text, summary_text}
pub use Rattle.log_commands.specs.Told.{Saved, Told, printed, refused}
pub use Rattle.log_commands.specs.declared.answer.Answer.{Answer}
pub use Rattle.log_commands.specs.declared.names.Role.{Role}
pub use Rattle.log_commands.specs.declared.refusal.Refusal.{Refusal}
pub use Rattle.log_commands.specs.declared.refusal.Refusal.TheVariants.{ElfRefused, OutOfMemory, OutOfRange, ReplayStopped, SameName, TooLong, WordsRefused}
pub use Rattle.log_file.specs.Blocks.{Block, blocks_of}
pub use Rattle.log_file.specs.Layout.{file_bytes2, saved_bytes}
pub use Rattle.log_order.specs.Content.{Content, IsContent, content}
pub use Rattle.log_record.specs.Spelling.{total}
pub use Rattle.log_record.specs.declared.record.Record.{Record}
pub use Rattle.replay_laws.specs.Law.{IsWhole, end_of}
pub use Rattle.run_files.specs.Files.{file_of}
pub use Rattle.run_model.specs.KeptRecords.{IsEndOf, content_of, dropped_of, kept_of}
pub use Rattle.run_model.specs.Runs.{run_of, seeded, start}
pub use Rattle.run_model.specs.Turn.{Run, ask_at, mark}
pub use Rattle.run_model.specs.declared.start.Start.{Start}
pub use Rattle.sha2.specs.Sha256.{sha256}
pub use Rattle.step_debugger.specs.Lines.{EndsTooMany, Input, input_of}
pub use Rattle.step_debugger.specs.declared.error.DebugError.{DebugError}
pub use Rattle.step_debugger.specs.declared.error.DebugError.TheVariants.{Joint, ReadFault, TooMuch, WriteFault}
pub use denote.Ref.{Bor}
