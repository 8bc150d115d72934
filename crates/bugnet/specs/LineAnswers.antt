-- What a line is answered by the files that are loaded for it.
use Rattle.std.specs.Prelude.{◌≡◌, Option, Some, Result, IfOk}
use Rattle.bugnet.specs.Common.{NoneFell, Schedule, Line, Note, CallsBy, Stored, FileNames, WithFiles, GivesBy, CauseBy, IsPrinted, Answer, Refusal}
use Rattle.bugnet.specs.Answers.{refusal_in, IsAnswer, line_roles}
use Rattle.bugnet.specs.Asks.{FitsLine}
use Rattle.bugnet.specs.Laws.{IsReadOnly}
use Rattle.bugnet.specs.LineCalls.{needed_roles, AnswersDemo}

-- a store was read only, and this is what the line has to answer, or why it was stopped
pub record AnswersLine (schedule : Option Schedule) (line : Line) (names : FileNames) (note : Note) (old new : Stored) (result : Result Answer Refusal) : Type 0 where
  pub told : WithFiles old.files (λ files. GivesBy names (IsAnswer schedule (Some line)) files result)
  pub same : new.files ≡ old.files
  pub asks : new.saves ≡ old.saves
  pub later : NoneFell old.counts new.counts
  pub cause : CauseBy (refusal_in line) old.counts new.counts result
  pub calls : CallsBy (refusal_in line) names (line_roles line) (needed_roles line) note old.noted new.noted result
  pub prints : IsReadOnly (Some line) → IfOk result IsPrinted
  pub records : IfOk result (FitsLine line)
  pub demo : AnswersDemo line names result
