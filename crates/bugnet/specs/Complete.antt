-- When a command has an answer, and when it is done.
use Rattle.std.specs.Prelude.{◌≡◌, ◌≤◌, ◌⊎◌, ℕ, List, false, length, Option, Some, None, Ok}
use Rattle.bugnet.specs.Common.{Program, first_bad, Files, Schedule, Line, RecordingLine, RecordLine, ReplayLine, JointLine, DebugLine, ListLine, CheckLine, AuditLine, RacesLine, SliceLine, ConvertLine, SalvageLine, DemoLine, bytes_eq, Content, IsContent, file_bytes2, image_of, Interval, Told, AreBytes, Agrees, HoldsLog, CanJoin, CanRace, CanSlice, IsFree, IsRecorded, input_by}
use Rattle.bugnet.specs.Command.Record.{is_clash}
use Rattle.bugnet.specs.Answers.{IsAnswer}
use Rattle.bugnet.specs.Headline.{Part, ReplaysRun}
use Rattle.bugnet.specs.Saves.{HoldsBytes}

-- ---- answers

-- the log of a line that loads one is bytes
abbrev pub HasBytes : Option Line → Files → Type 0
HasBytes (Some (ReplayLine log elf hart interval)) files = HoldsBytes (files log)
HasBytes (Some (JointLine log elf)) files = HoldsBytes (files log)
HasBytes (Some (DebugLine log elf)) files = HoldsBytes (files log)
HasBytes (Some (ListLine log)) files = HoldsBytes (files log)
HasBytes (Some (CheckLine log)) files = HoldsBytes (files log)
HasBytes (Some (AuditLine log elf book input)) files = HoldsBytes (files log)
HasBytes (Some (RacesLine log elf most)) files = HoldsBytes (files log)
HasBytes (Some (SliceLine log elf hart interval ic)) files = HoldsBytes (files log)
HasBytes (Some (ConvertLine log copy)) files = HoldsBytes (files log)
HasBytes (Some (SalvageLine log copy)) files = HoldsBytes (files log)
HasBytes other files = Unit {0}

-- then there is an answer, whatever schedule is given
abbrev pub EachHasAnAnswer : Type 0
EachHasAnAnswer = (schedule : Option Schedule) (line : Option Line) (files : Files) → HasBytes line files → (what : Told) × IsAnswer schedule line files what

-- ---- commands that can be done

-- the settings are in range, LOG and BOOK are two names unless it is lean, and the files are there, within their limits, the program's one that
-- can be loaded
pub record CanRecord (r : RecordingLine) (files : Files) : Type 0 where
  pub elf : List ℕ
  pub program : Program
  pub input : List ℕ
  pub settings : first_bad r.settings ≡ None
  pub names : is_clash r.lean r.log r.book ≡ false
  pub elf_there : files r.elf ≡ Some elf
  pub elf_small : length elf ≤ 67108864
  pub loaded : image_of elf r.settings ≡ Ok program
  pub input_there : input_by r.input files ≡ Some input
  pub input_small : length input ≤ 16777216

-- the file of a log is there, in either version
pub record HasContent (there : Option (List ℕ)) : Type 0 where
  pub content : Content
  pub is : IsContent content
  pub log : HoldsLog there content

-- in version 2
pub record HasSecond (there : Option (List ℕ)) : Type 0 where
  pub content : Content
  pub is : IsContent content
  pub log : there ≡ Some (file_bytes2 content)

-- what a line needs. What a session of the debugger needs is said by itself, since it is determined by its commands
abbrev pub CanDo : Line → Files → Type 0
CanDo (RecordLine r) files = CanRecord r files
CanDo (ReplayLine log elf hart interval) files = (p : Part) × (v : Interval) × ReplaysRun (Some (ReplayLine log elf hart interval)) files p v × (length p.elf ≤ 67108864)
CanDo (JointLine log elf) files = CanJoin log elf files
CanDo (DebugLine log elf) files = ⊥
CanDo (ListLine log) files = HasContent (files log)
CanDo (CheckLine log) files = HasContent (files log)
CanDo (AuditLine log elf book input) files = (a : Agrees log elf book input files) × AreBytes a.bytes
CanDo (RacesLine log elf most) files = CanRace log elf most files
CanDo (SliceLine log elf hart interval ic) files = CanSlice log elf hart interval ic files
CanDo (ConvertLine log copy) files = (bytes_eq log copy ≡ false) × HasContent (files log)
CanDo (SalvageLine log copy) files = (bytes_eq log copy ≡ false) × HasSecond (files log)
CanDo (DemoLine seed) files = Unit {0}

-- there is an answer, whatever schedule is given, and each answer is that of a command that is done
pub record CanBeDone (line : Line) (files : Files) : Type 0 where
  pub answer : (schedule : Option Schedule) → (what : Told) × IsAnswer schedule (Some line) files what
  pub done : (told : Told) → IsAnswer None (Some line) files told → IsRecorded told.status

-- each line can be done for which words and files are as it needs them
abbrev pub EachCanBeDone : Type 0
EachCanBeDone = (line : Line) (files : Files) → CanDo line files → CanBeDone line files

-- a command whose words and files are as it needs them is done, unless memory ran out or the outside failed
abbrev pub IsDone : Option Line → Files → ℕ → Type 0
IsDone None files status = Unit {0}
IsDone (Some line) files status = CanDo line files → IsFree status ⊎ IsRecorded status
