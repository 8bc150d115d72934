-- What a session of the debugger does, and what it shows of a recording.
use Rattle.std.specs.Prelude.{◌≡◌, ◌≢◌, ◌⊎◌, ◌≤◌, ℕ, false, nat_lt, List, ◌++◌, length, Option, Some, None, Err}
use Rattle.bugnet.specs.Common.{Appends, Program, Files, ReadNote, Supply, Line, DebugLine, Record, Content, IsContent, file_bytes2, Walk, Recording, IsLogOf, begin, SaysSoFar, input_of, Joint, Either, WithFiles, Call, IsFree, SomeTold, Tells, joined, LoadedPair, HasPair, code}
use Rattle.joint_replay.specs.declared.error.JointError.{JointError}
use Rattle.step_debugger.specs.Answers.{Answer, begin as session_begin}
use Rattle.step_debugger.specs.Transcript.{answers, transcript, Told as Transcript}
use Rattle.step_debugger.specs.declared.session.Ending.TheVariants.{Refused}
use Rattle.bugnet.specs.Answers.{names_in}
use Rattle.bugnet.specs.Jointly.{HasRun}
use Rattle.bugnet.specs.Run.{StoppedEarly}
use Rattle.bugnet.specs.Sessions.{Commands, Reading, AreRead, IsUnread, SessionOver, whole_input, input_in, session_status, IsSession, CanDebug}
use Rattle.log_commands.specs.declared.status.Status.TheVariants as exit

-- ---- a recording

-- the place of a session over a recording's records after these lines of commands
abbrev pub session_after : Recording → List Record → List (List ℕ) → Answer
session_after r records lines = answers lines (session_begin (begin r records))

-- the replay isn't refused by then, and what the session shows is the run's: the order, the rows, the states and the words
pub record ShowsRun (r : Recording) (records : List Record) (lines : List (List ℕ)) : Type 0 where
  pub goes_on : (e : JointError) → (session_after r records lines).ends ≢ Refused e
  pub walk : Walk
  pub says : SaysSoFar r (session_after r records lines).session.trace.now walk

-- A session over the records of any log of a recording shows the run, after any lines of commands
abbrev pub SessionsShowTheRun : Type 0
SessionsShowTheRun = (r : Recording) (records : List Record) → IsLogOf r records → (lines : List (List ℕ)) → ShowsRun r records lines

-- Whatever the format of its settings, a log's file in version 2 has at most the bytes that a command loads
abbrev pub ConvertedHaveTheirLimit : Type 0
ConvertedHaveTheirLimit = (d : Content) → IsContent d → length (file_bytes2 d) ≤ 272629760

-- the transcript of a session over a recording's records
abbrev pub session_of : Recording → List Record → Commands → Transcript
session_of r records c = transcript (begin r records) (input_in c)

-- a session with them is done as its commands say: its whole text is there, no replay was refused, and wherever it came it
-- showed the run
pub record DoneSession (r : Recording) (records : List Record) (c : Commands) (status : ℕ) (out_old out_new : Option (List ℕ)) : Type 0 where
  pub done : status ≡ session_status (session_of r records c).result
  pub text : Appends out_old out_new (session_of r records c).text
  pub goes_on : (e : JointError) → (session_of r records c).result ≢ Err (Joint e)
  pub shows : (lines : List (List ℕ)) → ShowsRun r records lines
  -- if they keep to their limits with all that may follow them, and no read failed, it wasn't stopped
  pub whole : (more : List ℕ) → c.failed ≡ false → (input_of (c.bytes ++ more)).refused ≡ None → status ≡ code exit.Done

-- a session over a recording's log is done so, unless memory ran out, the store or a write failed, or the program file is
-- too long
abbrev pub ShowsSession : Commands → (log elf : List ℕ) → Files → ℕ → Option (List ℕ) → Option (List ℕ) → Type 0
ShowsSession c log elf files status out_old out_new = (r : Recording) (h : HasRun log elf files r)
    → IsFree status ⊎ Either (nat_lt 67108864 (length r.elf)) (status ≡ code exit.TooLong) (DoneSession r h.says.log.records c status out_old out_new)

-- A session has all that it needs, if the log file that is there says an end of a recording, and the recording's program
-- file is there and isn't too long. Its commands have to be read whole, and to keep to their limits
abbrev pub RecordingsCanBeDebugged : Type 0
RecordingsCanBeDebugged = (c : Commands) (log elf : List ℕ) (files : Files) (r : Recording) → HasRun log elf files r → length r.elf ≤ 67108864
    → c.failed ≡ false → (input_of c.bytes).refused ≡ None → CanDebug c log elf files

-- A session isn't stopped at any prefix of commands that keep to their limits
abbrev pub PrefixesCanBeDebugged : Type 0
PrefixesCanBeDebugged = (c : Commands) (more log elf : List ℕ) (files : Files) (r : Recording) → HasRun log elf files r → length r.elf ≤ 67108864
    → c.failed ≡ false → (input_of (c.bytes ++ more)).refused ≡ None → CanDebug c log elf files

-- ---- the call

-- a session can begin: its log and its program are there, and loaded
abbrev pub CanBegin : Option Line → Files → Type 0
CanBegin (Some (DebugLine log elf)) files = HasPair log elf files
CanBegin line files = ⊥

-- a session with the log and the program that are there, which read these commands
pub record BegunSession (c : Commands) (log elf : List ℕ) (files : Files) (status : ℕ) (input now_input : Supply) (notes : ReadNote) (k : Call) : Type 0 where
  pub content : Content
  pub program : Program
  pub pair : LoadedPair log elf files content program
  pub over : SessionOver (joined content program) c.bytes status input now_input notes k.old.out k.new.out

-- nothing was read, or there was such a session
abbrev pub SessionIs : Commands → (log elf : List ℕ) → Files → (status : ℕ) → (input now_input : Supply) → (notes : ReadNote) → Call → Type 0
SessionIs c log elf files status input now_input notes k =
    IsUnread c input now_input ⊎ BegunSession c log elf files status input now_input notes k

-- By the files that are there and these commands it tells what it has to answer, or it was stopped before there was an
-- answer. If they have all that it needs, it is done. It shows a recording's run
pub record DebugsFiles (c : Commands) (log elf : List ℕ) (files : Files) (status : ℕ) (input now_input : Supply) (notes : ReadNote) (k : Call) : Type 0 where
  pub tells : SomeTold (IsSession c files (names_in (DebugLine log elf))) (λ what. Tells (names_in (DebugLine log elf)) what status k)
      ⊎ StoppedEarly None (Some (DebugLine log elf)) files status k
  pub done : CanDebug c log elf files → IsFree status ⊎ (status ≡ code exit.Done)
  pub shows : ShowsSession c log elf files status k.old.out.text k.new.out.text
  -- what was read was read by a session with the log and the program that are there, no further than its end says
  pub session : SessionIs c log elf files status input now_input notes k
  -- if a session with all that the source had left isn't stopped, no prefix stops it: it is done, or a read failed
  pub whole : (all : List ℕ) → input.left ≡ Some all → CanDebug (whole_input all) log elf files → IsFree status ⊎ ((status ≡ code exit.ReadFailed) ⊎ (status ≡ code exit.Done))

-- a session reads commands, and does so by them
abbrev pub Debugs : {I : Type 0} → Option Line → (status : ℕ) → Reading I → Call → Type 0
Debugs (Some (DebugLine log elf)) status i k =
    (c : Commands) × AreRead c status i.before i.after i.notes × WithFiles k.old.store.files (λ files. DebugsFiles c log elf files status i.before i.after i.notes k)
Debugs line status i k = Unit {0}
