-- How often a command asks its store to save.
use Rattle.std.specs.Prelude.{◌≡◌, ◌⊎◌, ℕ, Bool, true, false, not, is_some}
use Rattle.bn_outside.specs.Counts.{counted}
use Rattle.log_commands.specs.RunEnds.{IsRecorded}
use Rattle.log_commands.specs.declared.answer.Answer.{Answer}
use Rattle.log_commands.specs.declared.answer.RunToTell.{RunToTell}
use Rattle.log_commands.specs.declared.answer.Answer.TheVariants.{Recorded, Listed, Checked, Agreed, Renewed, Shown}
use Rattle.log_commands.specs.Statuses.{code}
use Rattle.log_commands.specs.declared.status.Status.TheVariants as exit

-- a recording saves two files; a lean one saves one, as does what makes a log of another
abbrev pub saves_after : (lean : Bool) → ℕ → ℕ
saves_after true before = counted before
saves_after false before = counted (counted before)

-- a command saves as often as it has to, or less often
abbrev pub AtMostSaves : (lean : Bool) → ℕ → ℕ → Type 0
AtMostSaves true before after = (after ≡ before) ⊎ (after ≡ counted before)
AtMostSaves false before after = (after ≡ before) ⊎ ((after ≡ counted before) ⊎ (after ≡ counted (counted before)))

-- all files of a recording are saved: it is done, or a write of its texts failed
abbrev pub SavedAll : ℕ → Type 0
SavedAll status = IsRecorded status ⊎ (status ≡ code exit.WriteFailed)

-- each file is saved once: with what is said of the files, so many saves are no more than that
pub record SavesEach (lean : Bool) (status before after : ℕ) : Type 0 where
  pub few : AtMostSaves lean before after
  pub all : SavedAll status → after ≡ saves_after lean before

-- a recording with no list of turns
abbrev pub is_lean : RunToTell → Bool
is_lean r = not (is_some r.book)

-- what an answer saves: a recording its files, a log that is made of another one file, all else none
abbrev pub AnswerSaves : Answer → (status before after : ℕ) → Type 0
AnswerSaves (Recorded r) status before after = SavesEach (is_lean r) status before after
AnswerSaves (Renewed n) status before after = SavesEach true status before after
AnswerSaves other status before after = after ≡ before

-- an answer that is a recording, lean or not
abbrev pub IsRecordedRun : (lean : Bool) → Answer → Type 0
IsRecordedRun lean (Recorded r) = is_lean r ≡ lean
IsRecordedRun lean other = ⊥

-- an answer that is a log made of another
abbrev pub IsRenewed : Answer → Type 0
IsRenewed (Renewed n) = Unit {0}
IsRenewed other = ⊥

-- an answer that is printed and saves nothing, and whose replay, if it comes of one, has ended
abbrev pub IsMade : Answer → Type 0
IsMade (Listed d) = Unit {0}
IsMade (Checked d) = Unit {0}
IsMade Agreed = Unit {0}
IsMade (Shown text) = Unit {0}
IsMade other = ⊥
