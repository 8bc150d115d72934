-- How the command `debug` goes: the end of a session, one with a log and its program, and one by their names.
use Rattle.std.specs.Prelude.{◌≡◌, ◌≢◌, ◌≤◌, ◌⊎◌, ℕ, true, List, Option, None, Result}
use Rattle.bugnet.specs.Common.{Rose, Joining, DebugError, Call, printing_on, SomeTold, Tells, StoppedBy, GivesStatus, done_of, world, between, Note, loads_of, Stored, FileNames, ReadNote, Stream, Supply, WithFiles, ToldRefusal, HasPair, pair_roles, Refusal, code}
use Rattle.step_debugger.specs.Transcript.{transcript}
use Rattle.bugnet.specs.DebugSessions.{SessionIs}
use Rattle.bugnet.specs.LineCalls.{CallsSo}
use Rattle.bugnet.specs.Run.{IsCounted}
use Rattle.bugnet.specs.Sessions.{Commands, Reading, AreRead, IsUnread, SessionOver, input_in, stop_refusal, session_told, is_begun, IsSession, IsDebug}
use Rattle.log_commands.specs.declared.status.Status.TheVariants as exit

-- the end of a session was told
abbrev pub ToldStop : FileNames → DebugError → ℕ → Option (List ℕ) → Option (List ℕ) → ℕ → ℕ → Type 0
ToldStop names e status old new before now = ToldRefusal names (stop_refusal e) status old new before now

-- a session over a joint replay: commands were read, and what they make it tell is told
abbrev pub DebugsPair : FileNames → Joining → (status : ℕ) → (input now_input : Supply) → (notes : ReadNote) → (out printed err end : Stream) → Type 0
DebugsPair names j status input now_input notes out printed err end =
    (c : Commands) × AreRead c status input now_input notes
    × ((store : Stored) → Tells names (session_told names (transcript j (input_in c))) status (printing_on store out printed err end))
    × (IsUnread c input now_input ⊎ SessionOver j c.bytes status input now_input notes out printed)

-- so it is once the refusal, if there is one, is told; a write is refused only if a count rose
pub record SessionEnds {I : Type 0} (names : FileNames) (j : Joining) (status : ℕ) (i : Reading I) (out printed err end : Stream) : Type 0 where
  pub told : DebugsPair names j status i.before i.after i.notes out printed err end
  pub begun : (is_begun status ≡ true) ⊎ (status ≡ code exit.NoInterval)
  pub write : status ≡ code exit.WriteFailed → Rose out.faults printed.faults ⊎ Rose err.faults end.faults
  pub read_later : i.before.faults ≤ i.after.faults
  pub out_later : out.faults ≤ printed.faults
  pub err_later : err.faults ≤ end.faults

-- whatever its line on err is, if it is refused: so it is once that is told
abbrev pub SessionTo : {I : Type 0} → Joining → Reading I → (out printed : Stream) → Result (Unit {0}) Refusal → Type 0
SessionTo j i out printed result = (names : FileNames) (status : ℕ) (err end : Stream) → GivesStatus names (done_of result) status err end → SessionEnds names j status i out printed err end

-- by the names of a log and a program: commands were read, and what they make the command tell is told, or it was stopped
-- before it had an answer
abbrev pub DebugsNamed : FileNames → (status : ℕ) → (input now_input : Supply) → (notes : ReadNote) → Call → Type 0
DebugsNamed names status input now_input notes k =
    (c : Commands) × AreRead c status input now_input notes
    × WithFiles k.old.store.files (λ files. SomeTold (IsSession c files names) (λ what. Tells names what status k) ⊎ StoppedBy names (λ files. IsDebug files names) files status k)
    × WithFiles k.old.store.files (λ files. SessionIs c names.log names.elf files status input now_input notes k)

-- `debug` with a log and a program, once its refusal, if there is one, is told
pub record DebugsEnds {I : Type 0} (names : FileNames) (status : ℕ) (note : Note) (i : Reading I) (k : Call) : Type 0 where
  pub told : DebugsNamed names status i.before i.after i.notes k
  pub first : (is_begun status ≡ true) ⊎ (i.new ≡ i.old)
  pub begins : (i.new ≡ i.old) ⊎ WithFiles k.old.store.files (λ files. HasPair names.log names.elf files)
  pub same : k.new.store.files ≡ k.old.store.files
  pub asks : k.new.store.saves ≡ k.old.store.saves
  pub calls : CallsSo names (loads_of pair_roles) (loads_of pair_roles) None is_begun status note k
  pub words : status ≢ code exit.WordsRefused
  pub counted : IsCounted status k
  pub read_later : i.before.faults ≤ i.after.faults

-- whatever its line on err is, if it is refused: so it is once that is told
abbrev pub DebugsTo : {I : Type 0} → FileNames → Note → Reading I → (old new : Stored) → (out printed : Stream) → Result (Unit {0}) Refusal → Type 0
DebugsTo names note i old new out printed result = (status : ℕ) (err end : Stream) → GivesStatus names (done_of result) status err end → DebugsEnds names status note i (between (world old out err) (world new printed end))
