-- Laws of records and their bytes, by their names: a proof elsewhere takes them under these.
use Rattle.std.specs.Prelude.{ℕ, ◌≡◌, ◌≤◌, List, ◌++◌, length, drop, Some, slice_index}
use Rattle.le_numbers.specs.Numbers.{AreBytes}
use Rattle.log_record.specs.declared.record.Record.{Record}
use Rattle.log_record.specs.Spelling.{size_of, bytes_of, FitsFields, Fits}
use Rattle.log_record.specs.Reading.{record_in}

-- the first byte of a record's bytes tells how many they are, whatever follows
abbrev pub TellTheirSize : Type 0
TellTheirSize = (r : Record) (rest : List ℕ) → FitsFields r → size_of (slice_index (bytes_of r ++ rest) 0) ≡ Some (length (bytes_of r))

-- if a record's bytes come first, their fields make the record, whatever follows
abbrev pub AreRead : Type 0
AreRead = (r : Record) (rest : List ℕ) → FitsFields r → record_in (bytes_of r ++ rest) ≡ r

-- if there are bytes enough for the first of them, they begin with those of the record that their fields make
abbrev pub AreWritten : Type 0
AreWritten = (n : ℕ) (bytes : List ℕ) → AreBytes bytes → size_of (slice_index bytes 0) ≡ Some n → n ≤ length bytes → FitsFields (record_in bytes) × (bytes ≡ bytes_of (record_in bytes) ++ drop n bytes)

-- no record's bytes begin another's
abbrev pub BeginNoOther : Type 0
BeginNoOther = (r s : Record) (x y : List ℕ) → FitsFields r → FitsFields s → bytes_of r ++ x ≡ bytes_of s ++ y → (r ≡ s) × (x ≡ y)

-- what a log of version 1 has, one of version 2 has too
abbrev pub FitLater : Type 0
FitLater = (r : Record) → Fits 1 r → Fits 2 r
