-- What a whole call of the program promises, by its line and the schedule that it is given: all of `run` and of
-- `run_by_schedule`.
use Rattle.std.specs.Prelude.{◌≡◌, ◌≤◌, ◌⊎◌, ℕ, true, Option}
use Rattle.bugnet.specs.Common.{Call, Line, NoneFell, Note, Rose, Schedule, WithFiles, WriteRose, code}
use Rattle.bugnet.specs.Agreements.{AuditsRun}
use Rattle.bugnet.specs.Asks.{LineSaves}
use Rattle.bugnet.specs.Complete.{IsDone}
use Rattle.bugnet.specs.DebugSessions.{CanBegin, Debugs}
use Rattle.bugnet.specs.Headline.{PrintsRun}
use Rattle.bugnet.specs.Jointly.{PrintsJointly}
use Rattle.bugnet.specs.Laws.{IsReadOnly, IsNoSession}
use Rattle.bugnet.specs.LineCalls.{CallsOnly, HasShape, TellsDemo}
use Rattle.bugnet.specs.Run.{ByWords, ChangesFew, Keeps, TellsAnswer}
use Rattle.bugnet.specs.Saves.{LeavesRun}
use Rattle.bugnet.specs.Sessions.{Reading, is_begun}
use Rattle.log_commands.specs.declared.status.Status.TheVariants as exit

-- what a call keeps to, whatever its status
pub record Runs {I : Type 0} (schedule : Option Schedule) (line : Option Line) (status : ℕ) (note : Note) (i : Reading I) (k : Call) : Type 0 where
  -- If the store's files are known, they, the words and the schedule determine the answer: its status, its texts and the files
  -- that are left. A recording with neither a seed nor a schedule has one more input: its list of turns. Whatever the status of
  -- the call, what it prints and saves is of that answer. By any store the words alone say whether the status is 2.
  pub told : TellsAnswer schedule line status k
  pub words : ByWords line status k
  -- The log of a recording gives the recorded run: the replay of an interval from it prints that run's own rows. A program file
  -- of more than 2 ^ 26 bytes is too long, also for a recording.
  pub headline : WithFiles k.old.store.files (λ files. PrintsRun line files status k.old.out.text k.new.out.text)
  -- Its joint replay says the run: it keeps the recorded order of conflicting accesses, and prints each hart's own rows, and
  -- words that the run had in memory.
  pub jointly : WithFiles k.old.store.files (λ files. PrintsJointly line files status k.old.out.text k.new.out.text)
  -- If the words and the files are as the command needs them, it is done, unless it runs out of memory, or the store or a write
  -- fails.
  pub done : WithFiles k.old.store.files (λ files. IsDone line files status)
  -- What was to be saved is saved, LOG before BOOK. Whatever happens, only a recording, `convert` and `salvage` change files, and
  -- of these only LOG and BOOK, or NEW. If nothing was to be saved, as at a replay, all stay as they were. Until LOG is saved
  -- BOOK does.
  pub kept : Keeps schedule line status k.old.store.files k.new.store.files
  pub others : ChangesFew schedule line k.old.store.files k.new.store.files
  pub still : IsReadOnly line → k.new.store.files ≡ k.old.store.files
  -- A recording that is done has saved each of its two files once, a lean one its log once, as have `convert` and `salvage` NEW.
  -- A refused one has saved at most so often, and no other command saves.
  pub saves : LineSaves line status k.old.store.saves k.new.store.saves
  -- It makes the calls of its words, in their order, and no other. Whatever its status, even out of memory, each save has the
  -- bytes of an answer to the files that are there. If the store refuses a call, that is the last, nothing is printed, and err
  -- has the line of that call's file. A recording that is done has made them all; words that are refused make none.
  pub calls : CallsOnly schedule line status note k
  -- By any store a command that isn't done is refused, unless memory ran out or a write failed. Then nothing is printed, and err
  -- has the line of a refusal of this status. But what `replay`, `joint` and `debug` print may end with 15, if a replay that was
  -- begun stops. That of `debug` may end too when it can read no more commands. `demo` tells its text.
  pub shape : HasShape line status k
  pub demo : TellsDemo line status k
  -- A recording leaves under LOG the file of the run of a legal and finished list of turns. With a seed it is the list that the
  -- seed chooses; else it is the schedule's, if one is given, also if there is one hart. A number's list is what it draws; a list
  -- is followed as far as it is legal, and then seed 0 chooses. So one that is legal and finished is BOOK's own. The file has the
  -- version of the settings' format. Its records have at most log-size bytes. The file has 124 bytes more in version 1; in
  -- version 2 it has 136 more, and 48 for each block. The status says how that run ended. BOOK has the list; only a lean
  -- recording leaves BOOK as it was.
  pub recorded : LeavesRun schedule line status k.old.store.files k.new.store.files
  -- Only `debug` reads commands, and only once its files are loaded and tested. What they make it tell is told: the text of its
  -- session, up to a read that failed, a line or commands that are too long, or a refusal of the replay. However it ends, each
  -- byte was read once, and none after the first `quit`. At 18 none was read after the first byte too many, at 15 none after the
  -- line that was refused. One more read finds the end of the input, or fails. At each read out has what it had before, the
  -- answers to the whole lines read so far, and nothing else. A session that isn't stopped by its whole input is stopped at no
  -- prefix of it. If the log is a recording's, all that it shows is the run's, and no replay is refused.
  pub session : Debugs line status i k
  pub first : (is_begun status ≡ true) ⊎ (i.new ≡ i.old)
  pub begins : (i.new ≡ i.old) ⊎ WithFiles k.old.store.files (λ files. CanBegin line files)
  pub unread : IsNoSession line → i.new ≡ i.old
  -- If an audit is done, LOG is the file of the run of BOOK's turns, or that file in version 2. They are legal and finished, with
  -- settings in range, the program and the input.
  pub audited : WithFiles k.old.store.files (λ files. AuditsRun line files status)
  -- A refusal by the outside comes only if its count rose, and no count falls.
  pub failed : status ≡ code exit.StoreFailed → Rose k.old.store.counts.faults k.new.store.counts.faults
  pub missing : status ≡ code exit.Missing → Rose k.old.store.counts.misses k.new.store.counts.misses
  pub long : status ≡ code exit.TooLong → Rose k.old.store.counts.longs k.new.store.counts.longs
  pub read : status ≡ code exit.ReadFailed → Rose i.before.faults i.after.faults
  pub write : status ≡ code exit.WriteFailed → WriteRose k
  pub later : NoneFell k.old.store.counts k.new.store.counts
  pub out_later : k.old.out.faults ≤ k.new.out.faults
  pub err_later : k.old.err.faults ≤ k.new.err.faults
  pub read_later : i.before.faults ≤ i.after.faults
