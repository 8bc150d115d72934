-- Why bytes are no log file.
use Rattle.std.specs.Prelude.{◌≡◌, ℕ, ◌<◌, ◌⊎◌, List, ◌++◌, drop, length, Some, None}
use Rattle.log_file.specs.Common.{flat_map, AllByRecursion, Head, Record, bytes_of, total, Fits, order_break, broken_by, Content}
use Rattle.log_file.specs.declared.error.FileError.{FileError}
use Rattle.log_file.specs.declared.error.FileError.TheVariants.{Short, BadMagic, BadVersion, BadHead, LengthDiffers, DigestDiffers, BadRecord, BadOrder, OutOfMemory}
use Rattle.log_file.specs.Layout.{head_in, dropped_in}
use Rattle.log_file.specs.Faults.{signed_of, file_fault}

-- the fields have what the log says
pub record HasFields (signed : List ℕ) (c : Content) : Type 0 where
  pub head : c.head ≡ head_in signed
  pub dropped : c.dropped ≡ dropped_in signed
  pub records : drop 92 signed ≡ flat_map bytes_of c.records

-- up to the place the bytes are those of records of this format, and there none begins though bytes are left
pub record NoRecord (format : ℕ) (bytes : List ℕ) (place : ℕ) : Type 0 where
  pub before : List Record
  pub rest : List ℕ
  pub fit : AllByRecursion (Fits format) before
  pub parts : bytes ≡ flat_map bytes_of before ++ rest
  pub place_is : place ≡ total before
  pub more : 0 < length rest
  pub none : (r : Record) (y : List ℕ) → Fits format r → rest ≡ bytes_of r ++ y → ⊥

-- the bytes are those of records, which break the order first there
pub record BreaksOrder (head : Head) (dropped : ℕ) (bytes : List ℕ) (place rule : ℕ) : Type 0 where
  pub records : List Record
  pub fit : AllByRecursion (Fits 1) records
  pub parts : bytes ≡ flat_map bytes_of records
  pub first : broken_by head.settings dropped records ≡ Some (order_break place rule)

-- the bytes are those of records in order
pub record AreInOrder (head : Head) (dropped : ℕ) (bytes : List ℕ) : Type 0 where
  pub records : List Record
  pub fit : AllByRecursion (Fits 1) records
  pub parts : bytes ≡ flat_map bytes_of records
  pub order : broken_by head.settings dropped records ≡ None

-- what is wrong with the bytes of the records, and only if nothing is, out of memory
abbrev pub IsRecordsFault : Head → ℕ → List ℕ → FileError → Type 0
IsRecordsFault head dropped bytes (Short length) = ⊥
IsRecordsFault head dropped bytes BadMagic = ⊥
IsRecordsFault head dropped bytes (BadVersion found) = ⊥
IsRecordsFault head dropped bytes (BadHead field value) = ⊥
IsRecordsFault head dropped bytes (LengthDiffers said found) = ⊥
IsRecordsFault head dropped bytes (DigestDiffers kept found) = ⊥
IsRecordsFault head dropped bytes (BadRecord place) = NoRecord 1 bytes place
IsRecordsFault head dropped bytes (BadOrder place rule) = BreaksOrder head dropped bytes place rule
IsRecordsFault head dropped bytes OutOfMemory = AreInOrder head dropped bytes

-- the first refusal: what is wrong up to the records, and only if nothing is, what is wrong with them
abbrev pub IsRefusal : List ℕ → FileError → Type 0
IsRefusal bytes e =
    (file_fault bytes ≡ Some e)
    ⊎ ((file_fault bytes ≡ None) × IsRecordsFault (head_in (signed_of bytes)) (dropped_in (signed_of bytes)) (drop 92 (signed_of bytes)) e)
