-- What a command comes to, by the bytes of its files.
use Rattle.std.specs.Prelude.{◌≡◌, ◌⊎◌, ℕ, Bool, true, false, List, Result, Ok, Err}
use Rattle.log_commands.specs.Common.{bytes_eq, sha256, Program, image_of, ElfError, Content, Reads, Damage}
use Rattle.log_commands.specs.Names.{FileNames}
use Rattle.log_commands.specs.Told.{Told, refused}
use Rattle.log_commands.specs.declared.pairs.JointReading.{JointReading}
use Rattle.log_commands.specs.declared.refusal.Refusal.{Refusal}
use Rattle.log_commands.specs.declared.refusal.Refusal.TheVariants.{OutOfMemory, LogRefused, ElfRefused, ProgramDiffers}

-- what was made is what it has to be, or memory ran out
abbrev pub Makes : {A : Type 0} → (Result A Refusal → Type 0) → Result A Refusal → Type 0
Makes Is (Ok made) = Is (Ok made)
Makes Is (Err refusal) = (refusal ≡ OutOfMemory) ⊎ Is (Err refusal)

-- ---- a log and its program

-- a log with the program that the loader made, or the loader's refusal
abbrev pub with_image : Content → Result Program ElfError → Result JointReading Refusal
with_image d (Err e) = Err (ElfRefused e)
with_image d (Ok i) = Ok (record { image = i; log = d })

-- the same if the digests are the same; else it is refused with both
abbrev pub where_same : Bool → List ℕ → Content → Result JointReading Refusal
where_same true elf d = with_image d (image_of elf d.head.settings)
where_same false elf d = Err (ProgramDiffers d.head.digest (sha256 elf))

-- a program file has to have the digest that the log says, and is loaded with its settings
abbrev pub pair_by : List ℕ → Result Content Damage → Result JointReading Refusal
pair_by elf (Err e) = Err (LogRefused e)
pair_by elf (Ok d) = where_same (bytes_eq (sha256 elf) d.head.digest) elf d

-- a log is read first
pub record IsPairOfBytes (log elf : List ℕ) (result : Result JointReading Refusal) : Type 0 where
  pub says : Result Content Damage
  pub reads : Reads log says
  pub is : result ≡ pair_by elf says

-- what was made is told by `show`, and a refusal by its line
abbrev pub told_by : {A : Type 0} → (A → Told) → FileNames → Result A Refusal → Told
told_by show names (Ok made) = show made
told_by show names (Err refusal) = refused names refusal
