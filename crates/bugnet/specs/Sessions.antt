-- What the command `debug` answers: a session over the joint replay of all intervals that a log keeps.
use Rattle.std.specs.Prelude.{◌≡◌, ◌≢◌, ◌⊎◌, ℕ, ◌+◌, ◌==◌, ◌||◌, Bool, true, false, List, [], ◌∷◌, ◌++◌, length, Option, Some, None, Result, Ok, Err}
use Rattle.bugnet.specs.Common.{AllByRecursion, Consumes, Program, Rose, Files, ConsumesAll, ReadNote, Stream, Supply, Content, at_start, Joining, Input, input_of, EndsTooMany, DebugError, ReadFault, WriteFault, TooMuch, FileNames, line_of, status_of, joint_refusal, Told, IsPair, ArePair, joined, Refusal, code}
use Rattle.bn_outside.specs.Streams.{noted_after}
use Rattle.step_debugger.specs.Commands.{command_of}
use Rattle.step_debugger.specs.Transcript.{transcript, Debugged, Told as Transcript}
use Rattle.step_debugger.specs.declared.command.DebugCommand.TheVariants.{Quit}
use Rattle.step_debugger.specs.declared.error.DebugError.TheVariants as stop
use Rattle.log_commands.specs.declared.refusal.Refusal.TheVariants as why
use Rattle.log_commands.specs.declared.status.Status.TheVariants as exit

-- ---- the commands

-- the commands that were read: their bytes, and whether a read failed after these
pub record Commands : Type 0 where
  pub bytes : List ℕ
  pub failed : Bool

-- all that a source has left
abbrev pub whole_input : List ℕ → Commands
whole_input all = record { bytes = all; failed = false }

-- after a failed read no more is read
abbrev pub cut : Bool → Input → Input
cut true input = record input { refused = Some ReadFault }
cut false input = input

-- what they hold
abbrev pub input_in : Commands → Input
input_in c = cut c.failed (input_of c.bytes)

-- none of these lines is `quit`
abbrev pub NoQuit : List (List ℕ) → Type 0
NoQuit lines = AllByRecursion (λ line. command_of line ≢ Quit) lines

-- bytes end with the line `quit`, the first one: no byte after it is there, not even one that is too many
pub record EndsWithQuit (bytes : List ℕ) : Type 0 where
  pub front : List (List ℕ)
  pub line : List ℕ
  pub lines : (input_of bytes).lines ≡ front ++ line ∷ []
  pub last : (input_of bytes).last ≡ []
  pub none : (input_of bytes).refused ≡ None
  pub before : NoQuit front
  pub quit : command_of line ≡ Quit

-- bytes end with a line that ends with LF, none of them is too many, and no line before it is `quit`
pub record EndsWithLine (bytes : List ℕ) : Type 0 where
  pub front : List (List ℕ)
  pub line : List ℕ
  pub lines : (input_of bytes).lines ≡ front ++ line ∷ []
  pub last : (input_of bytes).last ≡ []
  pub none : (input_of bytes).refused ≡ None
  pub before : NoQuit front

-- lines of which none is `quit`, and after them no byte is too many
abbrev pub NoneEnds : Input → Type 0
NoneEnds input = NoQuit input.lines × (input.refused ≡ None)

-- all bytes of the source are gone, none of them is too many, and no line of them that ends with LF is `quit`
abbrev pub ReadsAll : (input now_input : Supply) → List ℕ → Type 0
ReadsAll input now_input bytes = ConsumesAll input.left now_input.left bytes × NoneEnds (input_of bytes)

-- an input before a call and after it: itself, what is known of it, and how it notes its reads
pub record Reading (I : Type 0) : Type 0 where
  pub old : I
  pub new : I
  pub before : Supply
  pub after : Supply
  pub notes : ReadNote

-- the reading from one input to another, by what is known of each and how they note
abbrev pub reading : {I : Type 0} → (I → Supply) → ReadNote → I → I → Reading I
reading source note i j = record { old = i; new = j; before = source i; after = source j; notes = note }

-- ---- how a session ends

-- the refusal by the end of a session
abbrev pub stop_refusal : DebugError → Refusal
stop_refusal ReadFault = why.ReadFailed
stop_refusal WriteFault = why.WriteFailed
stop_refusal (stop.LineTooLong n) = why.LineTooLong
stop_refusal (TooMuch n) = why.CommandsTooLong
stop_refusal (stop.Joint e) = joint_refusal e
stop_refusal stop.OutOfMemory = why.OutOfMemory

-- the status by the end of a session that stopped
abbrev pub stop_status : DebugError → ℕ
stop_status e = status_of (stop_refusal e)

-- the status of a session: 0, or by its end
abbrev pub session_status : Result (Unit {0}) DebugError → ℕ
session_status (Ok u) = code exit.Done
session_status (Err e) = stop_status e

-- a session that ended so has this status; or 9, if memory ran out for the line on err
abbrev pub EndsBy : Result (Unit {0}) DebugError → ℕ → Type 0
EndsBy (Ok u) status = status ≡ code exit.Done
EndsBy (Err e) status = (status ≡ stop_status e) ⊎ (status ≡ code exit.OutOfMemory)

-- ---- how far a session reads

-- How far a session reads that ends so. If it is done: to its first `quit`, or to the end of the source. At a read that
-- failed: to that read. At too many bytes: to the first one of them. At a refused replay, or an answer that could not be
-- written: to the end of a line or of the source. Out of memory: to the end of a line, or to a byte that isn't too many. No
-- `quit` is passed
abbrev pub ReadsUpTo : (bytes : List ℕ) → (input now_input : Supply) → Result (Unit {0}) DebugError → Type 0
ReadsUpTo bytes input now_input (Ok u) = EndsWithQuit bytes ⊎ ReadsAll input now_input bytes
ReadsUpTo bytes input now_input (Err ReadFault) = NoneEnds (input_of bytes)
ReadsUpTo bytes input now_input (Err WriteFault) = EndsWithLine bytes ⊎ ReadsAll input now_input bytes
ReadsUpTo bytes input now_input (Err (stop.LineTooLong n)) = NoQuit (input_of bytes).lines × EndsTooMany 0 bytes
ReadsUpTo bytes input now_input (Err (TooMuch n)) = NoQuit (input_of bytes).lines × EndsTooMany 0 bytes
ReadsUpTo bytes input now_input (Err (stop.Joint e)) = EndsWithLine bytes ⊎ ReadsAll input now_input bytes
ReadsUpTo bytes input now_input (Err stop.OutOfMemory) = EndsWithLine bytes ⊎ NoneEnds (input_of bytes)

-- how often it reads: once for each byte, and once more if a read failed or the end of the source was found
abbrev pub ReadsOnce : (bytes : List ℕ) → (input now_input : Supply) → (reads : ℕ) → Result (Unit {0}) DebugError → Type 0
ReadsOnce bytes input now_input reads (Err ReadFault) = reads ≡ length bytes + 1
ReadsOnce bytes input now_input reads (Err (stop.LineTooLong n)) = reads ≡ length bytes
ReadsOnce bytes input now_input reads (Err (TooMuch n)) = reads ≡ length bytes
ReadsOnce bytes input now_input reads result = (reads ≡ length bytes) ⊎ (ReadsAll input now_input bytes × (reads ≡ length bytes + 1))

-- a session that was begun read so far, as it ended. The source has noted each of its reads, with what out had been given
pub record SessionReads (bytes : List ℕ) (status : ℕ) (input now_input : Supply) (notes : ReadNote) : Type 0 where
  pub result : Result (Unit {0}) DebugError
  pub ends : EndsBy result status
  pub up_to : ReadsUpTo bytes input now_input result
  pub given : List (Option (List ℕ))
  pub noted_is : now_input.noted ≡ noted_after notes input.noted given
  pub count : ReadsOnce bytes input now_input (length given) result

-- nothing was read
abbrev pub IsUnread : Commands → (input now_input : Supply) → Type 0
IsUnread c input now_input = (c.bytes ≡ []) × (c.failed ≡ false) × (now_input.noted ≡ input.noted)

-- the commands are bytes of the source that are gone, by a call that ended so
pub record AreRead (c : Commands) (status : ℕ) (input now_input : Supply) (notes : ReadNote) : Type 0 where
  pub taken : Consumes input.left now_input.left c.bytes
  -- a read failed only if the source's count rose, and no `quit` was read before
  pub failed : c.failed ≡ true → Rose input.faults now_input.faults × NoQuit (input_of c.bytes).lines
  pub cause : status ≡ code exit.ReadFailed → c.failed ≡ true
  -- a session that is done has read nothing after the first `quit`; or all, and then no line that ends with LF is `quit`
  pub done : status ≡ code exit.Done → EndsWithQuit c.bytes ⊎ ReadsAll input now_input c.bytes
  -- however it ended, it has read no further than its end says, and each byte once; before a session nothing is read
  pub up_to : IsUnread c input now_input ⊎ SessionReads c.bytes status input now_input notes

-- ---- what is told

-- the line on err by the end of a session
abbrev pub session_line : FileNames → Result (Unit {0}) DebugError → List ℕ
session_line names (Ok u) = []
session_line names (Err e) = line_of names (stop_refusal e)

-- the text of a session, and how it ended
unfoldable pub session_told : FileNames → Transcript → Told
session_told names t = record { status = session_status t.result; out = t.text; err = session_line names t.result; saved = None }

-- the session with a log and its program
abbrev pub debug_with : FileNames → Commands → Content → Program → Told
debug_with names c d i = session_told names (transcript (joined d i) (input_in c))

-- a session over this joint replay, which read these bytes: it did what `step_debugger` promises of its end
pub record SessionOver (j : Joining) (bytes : List ℕ) (status : ℕ) (input now_input : Supply) (notes : ReadNote) (out now_out : Stream) : Type 0 where
  pub result : Result (Unit {0}) DebugError
  pub ends : EndsBy result status
  pub session : Debugged (at_start j) input now_input notes out now_out result
  pub gone : session.gone ≡ bytes

-- ---- the command

-- with these commands
abbrev pub IsSession : Commands → Files → FileNames → Told → Type 0
IsSession c files names what = IsPair (debug_with names c) files names what

-- with some
abbrev pub IsDebug : Files → FileNames → Told → Type 0
IsDebug files names what = (c : Commands) × IsSession c files names what

-- the statuses of a session that was begun; before it nothing is read
abbrev pub is_begun : ℕ → Bool
is_begun status = (status == code exit.Done) || (status == code exit.OutOfMemory) || (status == code exit.ReadFailed) || (status == code exit.WriteFailed) || (status == code exit.ReplayStopped) || (status == code exit.CommandsTooLong)

-- what it needs: a log and its program are there, and the session isn't stopped
pub record CanDebug (c : Commands) (log elf : List ℕ) (files : Files) : Type 0 where
  pub content : Content
  pub program : Program
  pub pair : ArePair log elf files content program
  pub goes_on : (transcript (joined content program) (input_in c)).result ≡ Ok (tt {0})
