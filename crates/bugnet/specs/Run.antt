-- What a whole call of the program does, by its line.
use Rattle.std.specs.Prelude.{◌≡◌, ◌⊎◌, ℕ, Option}
use Rattle.bugnet.specs.Common.{Files, WhereTold, Schedule, Line, WithFiles, SameFiles, KeptFiles, MayChange, Call, IsByWords, IsUnsaved, SomeTold, StoppedBy, Tells, WriteRose, NoWriteFell, Rose, NoneFell, code}
use Rattle.bugnet.specs.Answers.{names_by, refusal_by, IsAnswer}
use Rattle.log_commands.specs.declared.status.Status.TheVariants as exit

-- ---- any command

-- a command was stopped before it had the answer that its words, its schedule and the files have
abbrev pub StoppedEarly : Option Schedule → Option Line → Files → ℕ → Call → Type 0
StoppedEarly schedule line files status k = StoppedBy (names_by line) (λ files. IsAnswer schedule line files) files status k

-- by the files that are there it tells what it has to answer, or was stopped before there was an answer
abbrev pub TellsAnswer : Option Schedule → Option Line → ℕ → Call → Type 0
TellsAnswer schedule line status k =
    WithFiles k.old.store.files (λ files. SomeTold (IsAnswer schedule line files) (λ what. Tells (names_by line) what status k) ⊎ StoppedEarly schedule line files status k)

-- a command that its words alone refuse is told so, whatever the files are, and no other has that status
abbrev pub ByWords : Option Line → ℕ → Call → Type 0
ByWords line status k = IsByWords (refusal_by line) (names_by line) status k

-- what was to be saved is saved, unless the store failed or memory ran out
abbrev pub Keeps : Option Schedule → Option Line → ℕ → (old new : Option Files) → Type 0
Keeps schedule line status old new =
    WithFiles old (λ files. IsUnsaved status ⊎ SomeTold (IsAnswer schedule line files) (λ what. WhereTold old new (KeptFiles what.saved (names_by line).log (names_by line).book)))

-- no more changes than what an answer may change, or nothing does
abbrev pub ChangesFew : Option Schedule → Option Line → (old new : Option Files) → Type 0
ChangesFew schedule line old new =
    WithFiles old (λ files. SomeTold (IsAnswer schedule line files) (λ what. WhereTold old new (MayChange what.saved (names_by line).log (names_by line).book)) ⊎ WhereTold old new SameFiles)

-- a refusal by the outside comes only if its count rose, and no count falls
pub record IsCounted (status : ℕ) (k : Call) : Type 0 where
  pub failed : status ≡ code exit.StoreFailed → Rose k.old.store.counts.faults k.new.store.counts.faults
  pub missing : status ≡ code exit.Missing → Rose k.old.store.counts.misses k.new.store.counts.misses
  pub long : status ≡ code exit.TooLong → Rose k.old.store.counts.longs k.new.store.counts.longs
  pub write : status ≡ code exit.WriteFailed → WriteRose k
  pub later : NoWriteFell k
  pub counts : NoneFell k.old.store.counts k.new.store.counts

-- what a command does: it tells what it has to answer
pub record Obeys (schedule : Option Schedule) (line : Option Line) (status : ℕ) (k : Call) : Type 0 where
  pub told : TellsAnswer schedule line status k
  pub words : ByWords line status k
  pub counted : IsCounted status k
