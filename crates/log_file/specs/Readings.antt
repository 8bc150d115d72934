-- What bytes are to the reader of logs.
use Rattle.std.specs.Prelude.{◌≡◌, ◌≢◌, ◌⊎◌, ℕ, List, None}
use Rattle.log_file.specs.Common.{first_bad, IsSetting, RawSettings, AreBytes, Content}
use Rattle.log_file.specs.declared.error.FileError.{FileError}
use Rattle.log_file.specs.declared.error.FileError.TheVariants.{OutOfMemory}
use Rattle.log_file.specs.Layout.{file_bytes, IsVersion1}
use Rattle.log_file.specs.File.{IsRefusal}

-- settings of which none is bad are in range
abbrev pub TestsTell : Type 0
TestsTell = (s : RawSettings) → first_bad s ≡ None → IsSetting s

-- given that, bytes are a log's, or there is a cause to refuse them
abbrev pub AreReadOrRefused : Type 0
AreReadOrRefused = TestsTell → (bytes : List ℕ) → AreBytes bytes
    → ((d : Content) × IsVersion1 d × (bytes ≡ file_bytes d)) ⊎ ((e : FileError) × IsRefusal bytes e × (e ≢ OutOfMemory))
