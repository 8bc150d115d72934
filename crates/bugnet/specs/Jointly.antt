-- The headline's second half: the joint replay of a log that says an end of what was recorded says the recorded run.
use Rattle.std.specs.Prelude.{◌≡◌, ◌⊎◌, ◌≤◌, ℕ, nat_lt, List, length, Option, Some, None}
use Rattle.bugnet.specs.Common.{Appends, Files, Line, RecordingLine, JointLine, Ran, run_all, Record, Recording, kept, begin, SaysTheRun, Told, refused, printed, Either, CanJoin, IsFree, TooLong, code}
use Rattle.joint_replay.specs.Texts.{joint_text}
use Rattle.joint_laws.specs.Recordings.{IsRecorded}
use Rattle.bugnet.specs.Answers.{names_by, IsAnswer}
use Rattle.bugnet.specs.Headline.{SaysEnd}
use Rattle.bugnet.specs.Saves.{Leaves}
use Rattle.log_commands.specs.declared.names.Role.TheVariants as role
use Rattle.log_commands.specs.declared.status.Status.TheVariants as exit

-- the joint replay of a recording's records, the lowest ready hart first
abbrev pub joint_run : Recording → List Record → Ran
joint_run r records = run_all (begin r records)

-- a log file that says an end of a recording's records is there, as it was saved, converted or salvaged, and the recording's
-- program file
pub record HasRun (log elf : List ℕ) (files : Files) (r : Recording) : Type 0 where
  pub program : files elf ≡ Some r.elf
  pub recording : IsRecorded r
  pub bytes : List ℕ
  pub log_there : files log ≡ Some bytes
  pub says : SaysEnd r.settings r.program r.elf r.input r.turns bytes

-- a command replays a log file that says an end of a recording jointly, with its program file
pub record JoinsRun (line : Option Line) (files : Files) (r : Recording) : Type 0 where
  pub log_name : List ℕ
  pub elf_name : List ℕ
  pub command : line ≡ Some (JointLine log_name elf_name)
  pub program : files elf_name ≡ Some r.elf
  pub recording : IsRecorded r
  pub bytes : List ℕ
  pub log : files log_name ≡ Some bytes
  pub says : SaysEnd r.settings r.program r.elf r.input r.turns bytes

-- the text of the joint replay of these records is told, the lowest ready hart first, and it says the run
pub record TellsRun (r : Recording) (records : List Record) (what : Told) : Type 0 where
  pub text : what ≡ printed (joint_text (run_all (begin r records)))
  pub says : SaysTheRun r records (run_all (begin r records))

-- What is answered tells the run; but a program file of more than 2 ^ 26 bytes is too long for any command, also for the one
-- that records
abbrev pub IsJoined : Option Line → Recording → List Record → Told → Type 0
IsJoined line r records what = Either (nat_lt 67108864 (length r.elf)) (what ≡ refused (names_by line) (TooLong role.Elf)) (TellsRun r records what)

-- the only answer to the joint replay of a recording's log tells the run
abbrev pub JointHeadline : Type 0
JointHeadline = (line : Option Line) (files : Files) (r : Recording) (j : JoinsRun line files r) (what : Told) → IsAnswer None line files what → IsJoined line r j.says.log.records what

-- If a log file that says an end of a recording is there and its program file, which isn't too long, there is all that the
-- command needs: their joint replay isn't stopped
abbrev pub RecordingsCanBeJoined : Type 0
RecordingsCanBeJoined = (log elf : List ℕ) (files : Files) (r : Recording) → HasRun log elf files r → length r.elf ≤ 67108864 → CanJoin log elf files

-- the run that a recording left
abbrev pub recording_of : {r : RecordingLine} {old new : Files} → Leaves r old new → Recording
recording_of {r} l = record { settings = r.settings; program = l.program; elf = l.elf; input = l.input; turns = l.turns }

-- Of what a recording leaves, the joint replay of its log is printed and says the recorded run, wherever the log and the program
-- file are by then
abbrev pub RecordingsAreJoined : Type 0
RecordingsAreJoined = (r : RecordingLine) (old new : Files) (l : Leaves r old new) (files : Files) (log elf : List ℕ) → files log ≡ new r.log → files elf ≡ old r.elf
    → (what : Told) → IsAnswer None (Some (JointLine log elf)) files what → TellsRun (recording_of l) (kept (recording_of l)) what

-- the command is done: out gains the text of that joint replay, and it says the run
pub record DoneJointly (r : Recording) (records : List Record) (status : ℕ) (out_old out_new : Option (List ℕ)) : Type 0 where
  pub done : status ≡ code exit.Done
  pub text : Appends out_old out_new (joint_text (run_all (begin r records)))
  pub says : SaysTheRun r records (run_all (begin r records))

-- the joint replay of a recording's log is printed so, unless memory ran out, the outside failed, or the program file is too
-- long
abbrev pub PrintsJointly : Option Line → Files → ℕ → Option (List ℕ) → Option (List ℕ) → Type 0
PrintsJointly line files status out_old out_new = (r : Recording) (j : JoinsRun line files r)
    → IsFree status ⊎ Either (nat_lt 67108864 (length r.elf)) (status ≡ code exit.TooLong) (DoneJointly r j.says.log.records status out_old out_new)
