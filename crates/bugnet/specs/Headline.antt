-- The headline: a log that says an end of what was recorded gives the recorded run's rows.
use Rattle.std.specs.Prelude.{◌≡◌, ◌⊎◌, ℕ, ◌-◌, nat_lt, List, ◌++◌, length, take, drop, Option, Some, None, Ok}
use Rattle.bugnet.specs.Common.{Appends, sha256, Program, RawSettings, Files, Line, RecordingLine, ReplayLine, Content, file_bytes2, Interval, interval_of, file_of, kept_of, content_of, IsEndOf, end_of, start, run_of, IsRecording, begin_text, rows_text, Told, refused, printed, Either, IsFree, TooLong, code}
use Rattle.bn_base.specs.declared.row.Row.{Row}
use Rattle.log_blocks.specs.Readings.{Reads}
use Rattle.run_model.specs.Rows.{rows_of}
use Rattle.rv_text.specs.Marks.{end_text}
use Rattle.bugnet.specs.Answers.{names_by, IsAnswer}
use Rattle.bugnet.specs.Saves.{Leaves}
use Rattle.log_commands.specs.declared.names.Role.TheVariants as role
use Rattle.log_commands.specs.declared.status.Status.TheVariants as exit

-- an interval of a run: the settings, the program file and its program, the input, the list of turns, the hart and number
pub record Part : Type 0 where
  pub settings : RawSettings
  pub elf : List ℕ
  pub program : Program
  pub input : List ℕ
  pub turns : List ℕ
  pub hart : ℕ
  pub number : ℕ

-- the hart's rows from the Header's count to the End's, with the fault's row
abbrev pub interval_rows : Part → Interval → List Row
interval_rows p v = take (end_of v - v.start.ic) (drop v.start.ic (rows_of p.settings p.program (start p.settings p.program p.input) p.turns p.hart))

-- the text of these rows of the run
abbrev pub run_text : Part → Interval → List ℕ
run_text p v = begin_text p.hart p.number v.start.ic ++ rows_text (interval_rows p v) ++ end_text p.hart p.number v.mark

-- bytes say an end of a run's records: they are read, in either version, as a log with the recording's settings and the digest of its
-- program file, whose records are the run's last ones. So are those that the recording saves, and those that are converted or
-- salvaged of these (`RecordingsSayEnds`, `SalvagedSayEnds`)
pub record SaysEnd (c : RawSettings) (i : Program) (elf input turns bytes : List ℕ) : Type 0 where
  pub log : Content
  pub reads : Reads bytes (Ok log)
  pub head : log.head ≡ record { settings = c; digest = sha256 elf }
  pub end : IsEndOf (run_of c i input turns).stream log.records

-- a command replays an interval from a log file that says an end of a recording, with its program file, and the log has the interval's
-- Header
pub record ReplaysRun (line : Option Line) (files : Files) (p : Part) (v : Interval) : Type 0 where
  pub log_name : List ℕ
  pub elf_name : List ℕ
  pub command : line ≡ Some (ReplayLine log_name elf_name p.hart p.number)
  pub program : files elf_name ≡ Some p.elf
  pub recording : IsRecording p.settings p.program p.elf p.input p.turns
  pub bytes : List ℕ
  pub log : files log_name ≡ Some bytes
  pub says : SaysEnd p.settings p.program p.elf p.input p.turns bytes
  pub kept : interval_of p.hart p.number says.log.records ≡ Some v

-- what is answered is the text of the recorded run's own rows; but a program file of more than 2 ^ 26 bytes is too long for any
-- command, also for the one that records
abbrev pub IsReplayed : Option Line → Part → Interval → Told → Type 0
IsReplayed line p v what = Either (nat_lt 67108864 (length p.elf)) (what ≡ refused (names_by line) (TooLong role.Elf)) (what ≡ printed (run_text p v))

-- the only answer to the replay of an interval of a recording is the text of the run's own rows
abbrev pub Headline : Type 0
Headline = (line : Option Line) (files : Files) (p : Part) (v : Interval) → ReplaysRun line files p v → (what : Told) → IsAnswer None line files what → IsReplayed line p v what

-- an interval of the run that a recording left
abbrev pub part_of : {r : RecordingLine} {old new : Files} → Leaves r old new → (hart number : ℕ) → Part
part_of {r} l hart number = record { settings = r.settings; elf = l.elf; program = l.program; input = l.input; turns = l.turns; hart = hart; number = number }

-- Of what a recording leaves, the replay of each interval whose Header its log keeps prints the recorded run's rows, wherever
-- the log and the program file are by then
abbrev pub RecordingsAreReplayed : Type 0
RecordingsAreReplayed = (r : RecordingLine) (old new : Files) (l : Leaves r old new) (hart number : ℕ) (v : Interval)
    → interval_of hart number (kept_of r.settings (run_of r.settings l.program l.input l.turns)) ≡ Some v
    → (files : Files) (log elf : List ℕ) → files log ≡ new r.log → files elf ≡ old r.elf
    → (what : Told) → IsAnswer None (Some (ReplayLine log elf hart number)) files what → what ≡ printed (run_text (part_of l hart number) v)

-- then out gains that text, unless memory ran out, the outside failed, or the program file is too long
abbrev pub PrintsRun : Option Line → Files → ℕ → Option (List ℕ) → Option (List ℕ) → Type 0
PrintsRun line files status out_old out_new = (p : Part) (v : Interval) → ReplaysRun line files p v
    → IsFree status ⊎ Either (nat_lt 67108864 (length p.elf)) (status ≡ code exit.TooLong) ((status ≡ code exit.Done) × Appends out_old out_new (run_text p v))

-- ---- which files say an end

-- The file that a recording saves says an end of its records, and so does its log in version 2, as `convert` saves it
pub record RecordingsSayEnds : Type 0 where
  pub saved : (c : RawSettings) (i : Program) (elf input b : List ℕ) → IsRecording c i elf input b → SaysEnd c i elf input b (file_of c i (sha256 elf) input b)
  pub converted : (c : RawSettings) (i : Program) (elf input b : List ℕ) → IsRecording c i elf input b → SaysEnd c i elf input b (file_bytes2 (content_of c (sha256 elf) (run_of c i input b)))
