-- What a recording begins with, by the files that it loads.
use Rattle.std.specs.Prelude.{◌⊎◌, List, Result, Ok, Err}
use Rattle.bugnet.specs.Common.{Files, Stored, Start, Note, CallsTo, OnlyLoads, FileNames, Told, refused, IsEarly, WithFiles, Role, Refusal}
use Rattle.bugnet.specs.Recordings.{Scheduling, IsRun}

-- whatever a recording that begins so may tell is what the command has to answer by the files that are there; or it was
-- stopped before it had an answer, or is refused
abbrev pub BeginsBy : FileNames → Scheduling → (Files → Told → Type 0) → Files → Result Start Refusal → Type 0
BeginsBy names how Is files (Ok s) = (what : Told) → IsRun s.settings s.image s.digest how s.input.items what → Is files what
BeginsBy names how Is files (Err refusal) = IsEarly names Is files refusal ⊎ Is files (refused names refusal)

-- the files in these roles were loaded, up to the first refusal, and nothing else was done to the store. A program is refused once
-- the files that are needed for that are loaded
pub record LoadsStart (names : FileNames) (Is : Scheduling → Files → Told → Type 0) (roles needed : List Role) (note : Note) (old new : Stored) (result : Result Start Refusal) : Type 0 where
  pub told : (how : Scheduling) → WithFiles old.files (λ files. BeginsBy names how (Is how) files result)
  pub only : OnlyLoads old new result
  pub calls : CallsTo names roles needed note old.noted new.noted result
