-- How often a line asks its store to save.
use Rattle.std.specs.Prelude.{◌≡◌, ℕ, true, Option, Some}
use Rattle.bugnet.specs.Common.{Line, RecordLine, ReplayLine, JointLine, DebugLine, ConvertLine, SalvageLine, Answer, IsMade, IsRecordedRun, IsRenewed, SavesEach}

-- what a command saves
abbrev pub LineSaves : Option Line → (status before after : ℕ) → Type 0
LineSaves (Some (RecordLine r)) status before after = SavesEach r.lean status before after
LineSaves (Some (ConvertLine log copy)) status before after = SavesEach true status before after
LineSaves (Some (SalvageLine log copy)) status before after = SavesEach true status before after
LineSaves line status before after = after ≡ before

-- the answer to a line that records is a recording, and that to one that makes a log of another is such a log. Only
-- `replay`, `joint` and `debug` have a replay that may stop as it is printed
abbrev pub FitsLine : Line → Answer → Type 0
FitsLine (RecordLine r) answer = IsRecordedRun r.lean answer
FitsLine (ReplayLine log elf hart interval) answer = Unit {0}
FitsLine (JointLine log elf) answer = Unit {0}
FitsLine (DebugLine log elf) answer = Unit {0}
FitsLine (ConvertLine log copy) answer = IsRenewed answer
FitsLine (SalvageLine log copy) answer = IsRenewed answer
FitsLine line answer = IsMade answer
