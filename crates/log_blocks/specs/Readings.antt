-- What bytes are to the reader of logs of either version, and to salvage.
use Rattle.std.specs.Prelude.{◌≡◌, ◌≢◌, ℕ, List, Result, Ok, Err}
use Rattle.log_blocks.specs.Common.{AreBytes, Content, IsContent, OutOfMemory, file_bytes, file_bytes2, saved_bytes, IsVersion1}
use Rattle.log_file.specs.Readings.{TestsTell}
use Rattle.log_blocks.specs.declared.damage.Damage.{Damage}
use Rattle.log_blocks.specs.declared.damage.Damage.TheVariants.{File}
use Rattle.log_blocks.specs.declared.damage.SalvageError.{SalvageError}
use Rattle.log_blocks.specs.declared.damage.SalvageError.TheVariants as salvage
use Rattle.log_blocks.specs.File.{IsRefusal, IsSpelled, IsSalvaged, IsSalvageRefusal}

-- what the bytes of a log file say, in the version that they name, or why they are refused
abbrev pub Reads : List ℕ → Result Content Damage → Type 0
Reads bytes (Ok d) = IsContent d × IsSpelled bytes d
Reads bytes (Err e) = IsRefusal bytes e × (e ≢ File OutOfMemory)

-- what is salvaged of them, or why nothing is
abbrev pub Salvages : List ℕ → Result Content SalvageError → Type 0
Salvages bytes (Ok d) = IsSalvaged bytes d
Salvages bytes (Err e) = IsSalvageRefusal bytes e × (e ≢ salvage.OutOfMemory)

-- bytes are read in one way
abbrev pub ReadingsAreUnique : Type 0
ReadingsAreUnique = (bytes : List ℕ) (r s : Result Content Damage) → Reads bytes r → Reads bytes s → r ≡ s

-- bytes are salvaged in one way
abbrev pub SalvagesAreUnique : Type 0
SalvagesAreUnique = (bytes : List ℕ) (r s : Result Content SalvageError) → Salvages bytes r → Salvages bytes s → r ≡ s

-- bytes say something, or there is a cause to refuse them
abbrev pub AreReadOrRefused : Type 0
AreReadOrRefused = TestsTell → (bytes : List ℕ) → AreBytes bytes → (says : Result Content Damage) × Reads bytes says

-- something is salvaged of them, or there is a cause why nothing is
abbrev pub AreSalvagedOrRefused : Type 0
AreSalvagedOrRefused = TestsTell → (bytes : List ℕ) → AreBytes bytes → (says : Result Content SalvageError) × Salvages bytes says

-- the files of either version say the log that they are of; so does what a recording saves, in the version of its settings' format
pub record FilesAreRead : Type 0 where
  pub first : (c : Content) → IsVersion1 c → Reads (file_bytes c) (Ok c)
  pub second : (c : Content) → IsContent c → Reads (file_bytes2 c) (Ok c)
  pub saved : (c : Content) → IsContent c → Reads (saved_bytes c) (Ok c)

-- of a log's file of version 2 this very log is salvaged
abbrev pub WholeAreSalvaged : Type 0
WholeAreSalvaged = (c : Content) → IsContent c → Salvages (file_bytes2 c) (Ok c)
