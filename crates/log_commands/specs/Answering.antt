-- What a command makes of the bytes that were loaded, before anything is printed or saved.
use Rattle.std.specs.Prelude.{◌≡◌, ℕ, List, [], ◌∷◌, Vec, Result, IfOk, IfErr}
use Rattle.log_commands.specs.Common.{Global, NoneFell, Files, Stored}
use Rattle.log_commands.specs.Commands.{WithFile}
use Rattle.log_commands.specs.FileCalls.{Note, Loads, store_call, LoadsTo, IsOfLoad}
use Rattle.log_commands.specs.Inputs.{Bytes, put, limit_of, IsLoaded, OnlyLoads}
use Rattle.log_commands.specs.Names.{FileNames, name_of}
use Rattle.log_commands.specs.Told.{Told}
use Rattle.log_commands.specs.Outside.{Gives, IsOwn, WithFiles, FetchTells, ResultCause}
use Rattle.log_commands.specs.declared.answer.Answer.{Answer}
use Rattle.log_commands.specs.declared.inputs.Inputs.{Inputs}
use Rattle.log_commands.specs.declared.names.Role.{Role}
use Rattle.log_commands.specs.declared.refusal.Refusal.{Refusal}

-- Whatever the files are named, it is what the command has to answer, or memory ran out. No refusal is by a store, of words,
-- of a write or of the commands of a session. What is answered is of this kind
pub record Answers (Kind : Answer → Type 0) (Is : FileNames → Told → Type 0) (result : Result Answer Refusal) : Type 0 where
  pub gives : (names : FileNames) → Gives names (Is names) result
  pub own : IsOwn result
  pub kind : IfOk result Kind

-- an answer by the files in these roles, loaded in this order, beside the bytes that were: one that is missing or too long is the
-- answer, or else what all the bytes come to
abbrev pub IsByFiles : Files → FileNames → List Role → Bytes → (Bytes → Told → Type 0) → Told → Type 0
IsByFiles files names [] had Is what = Is had what
IsByFiles files names (r ∷ roles) had Is what = WithFile files names r (limit_of r) (λ bytes what. IsByFiles files names roles (put had r bytes) Is what) what

-- ---- the store

-- the file in a role was loaded, or why not; nothing was saved, and no count fell
pub record Fetches (names : FileNames) (r : Role) (note : Note) (old new : Stored) (result : Result (Vec ℕ Global) Refusal) : Type 0 where
  pub told : WithFiles old.files (λ files. FetchTells r (limit_of r) (files (name_of names r)) result)
  pub same : new.files ≡ old.files
  pub asks : new.saves ≡ old.saves
  pub later : NoneFell old.counts new.counts
  pub cause : ResultCause old.counts new.counts result
  pub called : new.noted ≡ note old.noted (store_call names (Loads r))
  pub stops : IfErr result (IsOfLoad r)

-- the files in these roles were loaded, in this order, up to the first that was refused, and nothing else was done
pub record LoadsAll (names : FileNames) (roles : List Role) (note : Note) (old new : Stored) (result : Result Inputs Refusal) : Type 0 where
  pub loads : WithFiles old.files (λ files. IsLoaded names roles files result)
  pub only : OnlyLoads old new result
  pub calls : LoadsTo names roles note old.noted new.noted result
  pub none : roles ≡ [] → IfErr result (λ refusal. ⊥)
