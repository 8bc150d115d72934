-- What is wrong with the bytes of a file, up to its records.
use Rattle.std.specs.Prelude.{ℕ, ◌-◌, not, ◌==◌, nat_lt, List, take, drop, length, Option, Some, None, if◌then◌else◌}
use Rattle.log_file.specs.Common.{bytes_eq, sha256, first_bad, number_at}
use Rattle.bn_base.specs.declared.settings.BadSetting.{BadSetting}
use Rattle.log_file.specs.declared.error.FileError.{FileError}
use Rattle.log_file.specs.declared.offsets.TheConstants.{VERSION}
use Rattle.log_file.specs.declared.error.FileError.TheVariants.{Short, BadMagic, BadVersion, BadHead, LengthDiffers, DigestDiffers}
use Rattle.log_file.specs.Layout.{magic, settings_in, size_in}

-- a setting that is out of range, or what is wrong after the settings
abbrev pub setting_fault : Option BadSetting → Option FileError → Option FileError
setting_fault (Some bad) later = Some (BadHead bad.field bad.value)
setting_fault None later = later

-- what is wrong after the settings, of which one is the most bytes that the records may have
abbrev pub later_fault : List ℕ → List ℕ → ℕ → Option FileError
later_fault signed kept log_size =
    if nat_lt log_size (size_in signed) then Some (BadHead 9 (size_in signed)) else
    if not (size_in signed == length signed - 92) then Some (LengthDiffers (size_in signed) (length signed - 92)) else
    if not (bytes_eq kept (sha256 signed)) then Some (DigestDiffers kept (sha256 signed)) else
    None

-- the first fault of the bytes before the last digest, and of that digest
unfoldable pub head_fault : List ℕ → List ℕ → Option FileError
head_fault signed kept =
    if not (bytes_eq (take 8 signed) magic) then Some BadMagic else
    if not (number_at 4 VERSION signed == 1) then Some (BadVersion (number_at 4 VERSION signed)) else
    setting_fault (first_bad (settings_in signed)) (later_fault signed kept (settings_in signed).log_size)

-- all bytes but the last 32, which are a digest
abbrev pub signed_of : List ℕ → List ℕ
signed_of bytes = take (length bytes - 32) bytes

-- the first fault up to the records
abbrev pub file_fault : List ℕ → Option FileError
file_fault bytes = if nat_lt (length bytes) 124 then Some (Short (length bytes)) else head_fault (signed_of bytes) (drop (length bytes - 32) bytes)
