-- What is done with an answer: its files are saved, and its texts printed.
use Rattle.std.specs.Prelude.{◌≡◌, ◌⊎◌, ℕ, Bool, List, Some, Result, OnOk, IfErr}
use Rattle.log_commands.specs.Common.{Rose, NoneFell, counted, SameElsewhere, Stored, WhereTold, Stream}
use Rattle.log_commands.specs.Effects.{World, between, Acts, GivesStatus}
use Rattle.log_commands.specs.FileCalls.{Note, Saves, store_call, saves_in, saves_of, SavesTo, SavesTold}
use Rattle.log_commands.specs.Names.{FileNames, name_of}
use Rattle.log_commands.specs.Outside.{SaveTells, IsPrinted, told_of}
use Rattle.log_commands.specs.SaveCounts.{saves_after, AtMostSaves, AnswerSaves}
use Rattle.log_commands.specs.Told.{Saved}
use Rattle.log_commands.specs.declared.answer.Answer.{Answer}
use Rattle.log_commands.specs.declared.names.Role.{Role}
use Rattle.log_commands.specs.declared.refusal.Refusal.{Refusal}
use Rattle.log_commands.specs.declared.refusal.Refusal.TheVariants.{StoreFailed, OutOfMemory}
use Rattle.log_commands.specs.declared.status.Status.{Status}

-- ---- the store

-- why a save was refused: memory ran out, or the store failed at the file's name
abbrev pub StopsSaving : Role → (old new : Stored) → Refusal → Type 0
StopsSaving r old new refusal = (refusal ≡ OutOfMemory) ⊎ ((refusal ≡ StoreFailed r) × Rose old.counts.faults new.counts.faults)

-- the file in a role was saved, or why not. All other names have what they had
pub record SavesFile (names : FileNames) (r : Role) (file : List ℕ) (note : Note) (old new : Stored) (result : Result (Unit {0}) Refusal) : Type 0 where
  pub saved : OnOk result (WhereTold old.files new.files (λ before after. after (name_of names r) ≡ Some file))
  pub others : WhereTold old.files new.files (SameElsewhere (name_of names r))
  pub asked : new.saves ≡ counted old.saves
  pub called : new.noted ≡ note old.noted (store_call names (Saves r file))
  pub later : NoneFell old.counts new.counts
  pub stops : IfErr result (StopsSaving r old new)

-- all files of an answer were saved, the log first, or why not
pub record SavesAll (names : FileNames) (saved : Saved) (lean : Bool) (note : Note) (old new : Stored) (result : Result (Unit {0}) Refusal) : Type 0 where
  pub told : SaveTells saved names old.files new.files old.counts new.counts result
  pub later : NoneFell old.counts new.counts
  pub few : AtMostSaves lean old.saves new.saves
  pub all : OnOk result (new.saves ≡ saves_after lean old.saves)
  pub calls : SavesTo names (saves_of (Some saved)) note old.noted new.noted result

-- ---- an answer

-- the outside, once err was given more
abbrev pub with_err : World → Stream → World
with_err w end = record { store = w.store; out = w.out; err = end }

-- what an answer says is done, printed and saved
pub record ActsOn (names : FileNames) (answer : Answer) (status : ℕ) (note : Note) (old new : World) : Type 0 where
  pub acts : Acts names (told_of names answer) status (between old new)
  pub still : IsPrinted answer → new.store.files ≡ old.store.files
  pub saves : AnswerSaves answer status old.store.saves new.store.saves
  pub calls : SavesTold names (saves_in answer) status note old.store.noted new.store.noted (between old new)

-- so it is once the refusal, if there is one, is told
abbrev pub ActsTo : FileNames → Answer → Note → (old new : World) → Result Status Refusal → Type 0
ActsTo names answer note old new result = (status : ℕ) (end : Stream) → GivesStatus names result status new.err end → ActsOn names answer status note old (with_err new end)
