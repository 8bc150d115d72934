-- What a command answers by a log and the program that it was recorded of.
use Rattle.std.specs.Prelude.{◌≡◌, ◌≤◌, ◌⊎◌, Bool, true, false, ℕ, List, [], ◌∷◌, length, Option, Some, Result, Ok, Err}
use Rattle.log_commands.specs.Common.{bytes_eq, sha256, Program, Files, image_of, ElfError, Content, IsContent, saved_bytes, file_bytes2, Reads}
use Rattle.log_commands.specs.Names.{FileNames}
use Rattle.log_commands.specs.Told.{Told, refused}
use Rattle.log_commands.specs.Commands.{WithFile, IsByLog}
use Rattle.log_commands.specs.declared.names.Role.{Role}
use Rattle.log_commands.specs.declared.names.Role.TheVariants as role
use Rattle.log_commands.specs.declared.refusal.Refusal.TheVariants.{ElfRefused, ProgramDiffers}

-- the files that an answer by a log and its program loads, in this order
abbrev pub pair_roles : List Role
pair_roles = role.Log ∷ role.Elf ∷ []

-- an answer by what a log says and by a program
abbrev pub ByPair : Type 0
ByPair = Content → Program → Told

-- the answer by a log and what the loader makes of its program
abbrev pub pair_loaded : ByPair → FileNames → Content → Result Program ElfError → Told
pair_loaded go names d (Err e) = refused names (ElfRefused e)
pair_loaded go names d (Ok i) = go d i

-- the same if the digests are the same; else it is refused with both
abbrev pub pair_same : Bool → ByPair → FileNames → List ℕ → Content → Told
pair_same true go names elf d = pair_loaded go names d (image_of elf d.head.settings)
pair_same false go names elf d = refused names (ProgramDiffers d.head.digest (sha256 elf))

-- what a log comes to with a program file: its digest is compared with the log's, and it is loaded with the log's settings
abbrev pub pair_of : ByPair → FileNames → List ℕ → Content → Told
pair_of go names elf d = pair_same (bytes_eq (sha256 elf) d.head.digest) go names elf d

-- by the files that are there: the log first
abbrev pub IsPairOf : ByPair → Files → FileNames → List ℕ → Told → Type 0
IsPairOf go files names log what = WithFile files names role.Elf 67108864 (λ elf what. IsByLog names log (pair_of go names elf) what) what

-- an answer by a log and its program: both files are loaded, LOG first, then the log is read, the digests are compared and the
-- program is loaded. `joint`, `debug`, `races` and `slice` answer so
abbrev pub IsPair : ByPair → Files → FileNames → Told → Type 0
IsPair go files names what = WithFile files names role.Log 272629760 (λ log what. IsPairOf go files names log what) what

-- a log's file is there: in the version of its settings' format, as a recording saves it, or in version 2, as `convert` and
-- `salvage` do
abbrev pub HoldsLog : Option (List ℕ) → Content → Type 0
HoldsLog there d = (there ≡ Some (saved_bytes d)) ⊎ (there ≡ Some (file_bytes2 d))

-- a log and its program are there, the log's file in either version
pub record ArePair (log elf : List ℕ) (files : Files) (d : Content) (i : Program) : Type 0 where
  pub bytes : List ℕ
  pub is : IsContent d
  pub log_there : HoldsLog (files log) d
  pub elf_there : files elf ≡ Some bytes
  pub elf_small : length bytes ≤ 67108864
  pub same : bytes_eq (sha256 bytes) d.head.digest ≡ true
  pub loaded : image_of bytes d.head.settings ≡ Ok i

-- LOG is there within its limit and reads as this log; ELF is there within its limit, has the digest that the log
-- says, and loads as this program
pub record LoadedPair (log elf : List ℕ) (files : Files) (d : Content) (i : Program) : Type 0 where
  pub log_bytes : List ℕ
  pub elf_bytes : List ℕ
  pub log_there : files log ≡ Some log_bytes
  pub log_small : length log_bytes ≤ 272629760
  pub reads : Reads log_bytes (Ok d)
  pub elf_there : files elf ≡ Some elf_bytes
  pub elf_small : length elf_bytes ≤ 67108864
  pub same : bytes_eq (sha256 elf_bytes) d.head.digest ≡ true
  pub loaded : image_of elf_bytes d.head.settings ≡ Ok i

-- there is such a pair
abbrev pub HasPair : (log elf : List ℕ) → Files → Type 0
HasPair log elf files = (d : Content) × (i : Program) × LoadedPair log elf files d i
