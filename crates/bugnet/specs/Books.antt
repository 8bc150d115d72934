-- What recordings tell and leave that are given one schedule, or the BOOK of another.
use Rattle.bugnet.specs.Common.{Bor, Files, Schedule, RecordingLine, RecordLine, IsRecorded, Told, Saved, input_by}
use Rattle.std.specs.Prelude.{◌≡◌, ℕ, Bool, false, List, Option, Some, None, option_map}
use Rattle.bn_outside.specs.declared.schedule.Schedule.TheVariants.{Listed}
use Rattle.bugnet.specs.Answers.{IsAnswer}
use Rattle.bugnet.specs.Laws.{book_of}
use Rattle.bugnet.specs.Saves.{Leaves, KeepsSchedule}

-- ---- what they leave

-- two recordings of one program file and one input, with the same settings
pub record AreOfOne {r q : RecordingLine} {old new before after : Files} (first : Leaves r old new) (second : Leaves q before after) : Type 0 where
  pub settings : q.settings ≡ r.settings
  pub elf : second.elf ≡ first.elf
  pub input : second.input ≡ first.input

-- they took the same turns, and left the same log, and the same list of turns if both left one, byte for byte
pub record LeaveOne {r q : RecordingLine} {old new before after : Files} (first : Leaves r old new) (second : Leaves q before after) : Type 0 where
  pub turns : second.turns ≡ first.turns
  pub log : after q.log ≡ new r.log
  pub book : r.lean ≡ false → q.lean ≡ false → after q.book ≡ new r.book

-- if the second of two such recordings was given the BOOK of the first, both leave the same
abbrev pub BooksAreFollowed : Type 0
BooksAreFollowed = (r q : RecordingLine) (old new before after : Files) (first : Leaves r old new) (second : Leaves q before after) (book : Bor (List ℕ))
    → r.lean ≡ false → new r.book ≡ Some book.now → AreOfOne first second → KeepsSchedule second (Some (Listed book)) → LeaveOne first second

-- ---- what they tell

-- two recordings find one program file and one input, with the same settings
pub record LoadOne (r q : RecordingLine) (old before : Files) : Type 0 where
  pub settings : q.settings ≡ r.settings
  pub elf : before q.elf ≡ old r.elf
  pub input : input_by q.input before ≡ input_by r.input old

-- the log that an answer saves
abbrev pub log_of : Told → Option (List ℕ)
log_of what = option_map (λ (s : Saved). s.log) what.saved

-- two answers have one status, the same texts and the same log, and if both save a list of turns it is the same, byte for byte
pub record TellOne (lean other : Bool) (a b : Told) : Type 0 where
  pub status : b.status ≡ a.status
  pub out : b.out ≡ a.out
  pub err : b.err ≡ a.err
  pub log : log_of b ≡ log_of a
  pub book : lean ≡ false → other ≡ false → book_of b ≡ book_of a

-- what two recordings without a seed that are given one schedule have to answer, once nothing refuses them
abbrev pub TellOneRun : Type 0
TellOneRun = (r q : RecordingLine) (old before : Files) (schedule : Schedule) → r.seed ≡ None → q.seed ≡ None → LoadOne r q old before
    → (a b : Told) → IsAnswer (Some schedule) (Some (RecordLine r)) old a → IsAnswer (Some schedule) (Some (RecordLine q)) before b
    → IsRecorded a.status → IsRecorded b.status → TellOne r.lean q.lean a b

-- what two such recordings leave
abbrev pub LeaveOneRun : Type 0
LeaveOneRun = (r q : RecordingLine) (old new before after : Files) (first : Leaves r old new) (second : Leaves q before after) (schedule : Schedule)
    → AreOfOne first second → KeepsSchedule first (Some schedule) → KeepsSchedule second (Some schedule) → LeaveOne first second

-- recordings that are given one schedule tell and leave the same
pub record SchedulesGiveOneRun : Type 0 where
  pub tell : TellOneRun
  pub leave : LeaveOneRun
