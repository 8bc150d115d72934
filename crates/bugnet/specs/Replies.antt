-- What a command does, and what it does before its refusal is told.
use Rattle.std.specs.Prelude.{◌≡◌, ◌≢◌, ◌≤◌, ◌⊎◌, ℕ, true, Option, Some, Result}
use Rattle.bugnet.specs.Common.{Rose, Schedule, Stream, Line, Call, GivesStatus, between, Note, FileNames, WithFiles, Refusal, code}
use Rattle.bugnet.specs.Asks.{LineSaves}
use Rattle.bugnet.specs.DebugSessions.{CanBegin, Debugs}
use Rattle.bugnet.specs.Laws.{IsReadOnly, IsNoSession}
use Rattle.bugnet.specs.LineCalls.{CallsOnly, TellsDemo}
use Rattle.bugnet.specs.Run.{Obeys}
use Rattle.bugnet.specs.Saves.{LeavesRun}
use Rattle.bugnet.specs.Sessions.{Reading, is_begun}
use Rattle.log_commands.specs.Acting.{with_err}
use Rattle.log_commands.specs.declared.status.Status.{Status}
use Rattle.log_commands.specs.declared.status.Status.TheVariants as exit

-- what a command does, but for what it reads
pub record Replies (schedule : Option Schedule) (line : Option Line) (status : ℕ) (note : Note) (k : Call) : Type 0 where
  pub obeys : Obeys schedule line status k
  pub still : IsReadOnly line → k.new.store.files ≡ k.old.store.files
  pub saves : LineSaves line status k.old.store.saves k.new.store.saves
  pub calls : CallsOnly schedule line status note k
  pub demo : TellsDemo line status k
  pub recorded : LeavesRun schedule line status k.old.store.files k.new.store.files

-- any command, or words that are none
pub record Does {I : Type 0} (schedule : Option Schedule) (line : Option Line) (status : ℕ) (note : Note) (i : Reading I) (k : Call) : Type 0 where
  pub replies : Replies schedule line status note k
  pub session : Debugs line status i k
  pub first : (is_begun status ≡ true) ⊎ (i.new ≡ i.old)
  pub begins : (i.new ≡ i.old) ⊎ WithFiles k.old.store.files (λ files. CanBegin line files)
  pub unread : IsNoSession line → i.new ≡ i.old
  pub read : status ≡ code exit.ReadFailed → Rose i.before.faults i.after.faults
  pub read_later : i.before.faults ≤ i.after.faults

-- ---- before a refusal is told

-- a call, once err was given more
abbrev pub with_end : Call → Stream → Call
with_end k end = between k.old (with_err k.new end)

-- a command that reads no commands does so once its refusal, if there is one, is told
abbrev pub RepliesTo : Option Schedule → Line → FileNames → Note → Call → Result Status Refusal → Type 0
RepliesTo schedule line names note k result = (status : ℕ) (end : Stream) → GivesStatus names result status k.new.err end → Replies schedule (Some line) status note (with_end k end) × (status ≢ code exit.ReadFailed)

-- the same of any command
abbrev pub DoesTo : {I : Type 0} → Option Schedule → Line → FileNames → Note → Reading I → Call → Result Status Refusal → Type 0
DoesTo schedule line names note i k result = (status : ℕ) (end : Stream) → GivesStatus names result status k.new.err end → Does schedule (Some line) status note i (with_end k end)
