-- That words, files and a schedule determine what is told.
use Rattle.std.specs.Prelude.{◌≡◌, ◌⊎◌, ℕ, Option, Some, None}
use Rattle.bugnet.specs.Common.{Call, DebugLine, Files, Line, RecordLine, Schedule, Tells, Told}
use Rattle.bugnet.specs.Answers.{IsAnswer, names_by}
use Rattle.bugnet.specs.Complete.{HasBytes}
use Rattle.bugnet.specs.Run.{StoppedEarly, TellsAnswer}

-- a recording has a seed, or is given a schedule
abbrev pub HasTurns : (seed : Option ℕ) → Option Schedule → Type 0
HasTurns (Some seed) schedule = Unit {0}
HasTurns None (Some schedule) = Unit {0}
HasTurns None None = ⊥

-- words that have one answer: all but `debug`, which reads commands too, and a recording with neither a seed nor a schedule
abbrev pub AreDetermined : Option Schedule → Option Line → Type 0
AreDetermined schedule (Some (RecordLine r)) = HasTurns r.seed schedule
AreDetermined schedule (Some (DebugLine log elf)) = ⊥
AreDetermined schedule line = Unit {0}

-- One answer to words, by the files that are there, which each of their calls tells: all of it, or what came before the store, memory
-- or a write stopped it. Or the call was stopped before it had an answer
pub record HaveOneAnswer (schedule : Option Schedule) (line : Option Line) (files : Files) : Type 0 where
  pub what : Told
  pub is : IsAnswer schedule line files what
  pub told : (status : ℕ) (k : Call) → k.old.store.files ≡ Some files → TellsAnswer schedule line status k → Tells (names_by line) what status k ⊎ StoppedEarly schedule line files status k

-- such words have one answer, if the log that they load is bytes
abbrev pub AnswersAreDetermined : Type 0
AnswersAreDetermined = (schedule : Option Schedule) (line : Option Line) (files : Files) → HasBytes line files → AreDetermined schedule line → HaveOneAnswer schedule line files
