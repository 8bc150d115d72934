-- What is wrong with the head of a file of version 2.
use Rattle.std.specs.Prelude.{ℕ, not, ◌==◌, ◌&&◌, nat_le, nat_lt, Bool, List, take, length, Option, Some, None, if◌then◌else◌}
use Rattle.log_blocks.specs.Common.{bytes_eq, number_at, FileError, Short, BadMagic, BadVersion, BadHead, DigestDiffers, magic}
use Rattle.bn_base.specs.Ranges.{first_bad}
use Rattle.log_file.specs.declared.offsets.TheConstants.{VERSION}
use Rattle.log_file.specs.Faults.{setting_fault}
use Rattle.log_blocks.specs.Fields.{settings_in, size_in, kept_digest, head_digest}

-- the bytes are enough for a file of either version, begin as one, and name version 2
abbrev pub is_second : List ℕ → Bool
is_second bytes = nat_le 124 (length bytes) && bytes_eq (take 8 bytes) magic && (number_at 4 VERSION bytes == 2)

-- what is wrong after the settings, of which one is the most bytes that the records may have
abbrev pub later_fault : List ℕ → ℕ → Option FileError
later_fault bytes log_size =
    if nat_lt log_size (size_in bytes) then Some (BadHead 9 (size_in bytes)) else
    if not (bytes_eq (kept_digest bytes) (head_digest bytes)) then Some (DigestDiffers (kept_digest bytes) (head_digest bytes)) else
    None

-- the first fault of a head that should be of version 2
unfoldable pub head_fault : List ℕ → Option FileError
head_fault bytes =
    if nat_lt (length bytes) 124 then Some (Short (length bytes)) else
    if not (bytes_eq (take 8 bytes) magic) then Some BadMagic else
    if not (number_at 4 VERSION bytes == 2) then Some (BadVersion (number_at 4 VERSION bytes)) else
    if nat_lt (length bytes) 136 then Some (Short (length bytes)) else
    setting_fault (first_bad (settings_in bytes)) (later_fault bytes (settings_in bytes).log_size)
