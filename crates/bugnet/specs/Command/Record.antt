-- What `record` has to answer: the settings are tested, then the names, then ELF and the input are loaded.
use Rattle.std.specs.Prelude.{◌≡◌, ℕ, Bool, true, false, List, Option, Some, None, Result, Ok, Err}
use Rattle.bugnet.specs.Common.{bytes_eq, sha256, Program, first_bad, BadSetting, RawSettings, Files, image_of, FileNames, Told, refused, OutOfRange, SameName, ElfRefused, IsByInput, WithFile}
use Rattle.elf_loader.specs.declared.error.ElfError.{ElfError}
use Rattle.bugnet.specs.Recordings.{Scheduling, IsRun}
use Rattle.log_commands.specs.declared.names.Role.TheVariants as role

-- ---- the commands

-- the loader's refusal of ELF is told; of a program the input is loaded, and its run is told
abbrev pub IsByProgram : Result Program ElfError → Files → FileNames → RawSettings → Scheduling → Bool → List ℕ → Told → Type 0
IsByProgram (Err e) files names c how has_input digest what = what ≡ refused names (ElfRefused e)
IsByProgram (Ok i) files names c how has_input digest what = IsByInput has_input files names (IsRun c i digest how) what

-- LOG and BOOK under one name, if both are saved
abbrev pub is_clash : (lean : Bool) → (log book : List ℕ) → Bool
is_clash true log book = false
is_clash false log book = bytes_eq log book

-- LOG and BOOK have to be two names, if both are saved
abbrev pub IsByNames : Bool → Files → FileNames → RawSettings → Scheduling → Bool → Told → Type 0
IsByNames true files names c how has_input what = what ≡ refused names SameName
IsByNames false files names c how has_input what = WithFile files names role.Elf 67108864 (λ elf what. IsByProgram (image_of elf c) files names c how has_input (sha256 elf) what) what

-- a setting out of range is refused; else the names are tested
abbrev pub IsBySettings : Option BadSetting → Files → FileNames → RawSettings → Scheduling → Bool → Told → Type 0
IsBySettings (Some bad) files names c how has_input what = what ≡ refused names (OutOfRange bad)
IsBySettings None files names c how has_input what = IsByNames (is_clash how.lean names.log names.book) files names c how has_input what

-- what `record` has to answer: the settings are tested, then the names, then ELF and the input are loaded
abbrev pub IsRecord : Files → FileNames → RawSettings → Scheduling → Bool → Told → Type 0
IsRecord files names c how has_input what = IsBySettings (first_bad c) files names c how has_input what
