-- What is recorded.
use Rattle.std.specs.Prelude.{◌≡◌, ℕ, true, List, Ok}
use Rattle.file_laws.specs.Common.{Program, IsSetting, RawSettings, AreBytes, start, run_of, legal_from, has_finished}
use Rattle.elf_loader.specs.Loaded.{image_of}

-- A recording: settings in range, the bytes of a program file, the program that is loaded from them, and a list of turns
-- that is legal and finished. (Definitions have no type of bytes, so that items are below 256 is said here.)
pub record IsRecording (c : RawSettings) (i : Program) (elf input b : List ℕ) : Type 0 where
  pub setting : IsSetting c
  pub bytes : AreBytes elf
  pub loaded : image_of elf c ≡ Ok i
  pub legal : legal_from c i (start c i input) b ≡ true
  pub over : has_finished c (run_of c i input b) ≡ true
