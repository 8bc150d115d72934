-- Bytes that are those of whole records, one after another.
use Rattle.std.specs.Prelude.{◌≡◌, ◌≤◌, ℕ, zero, suc, List, [], ◌∷◌, length, drop, unwrap_or}
use Rattle.std.specs.List.{flat_map, AllByRecursion}
use Rattle.log_record.specs.declared.record.Record.{Record}
use Rattle.log_record.specs.Spelling.{size_of, bytes_of, Fits}
use Rattle.log_record.specs.Reading.{record_in}

-- the bytes cut into records by their tags, at most so many
unfoldable pub cut : ℕ → List ℕ → List Record
cut zero bytes = []
cut (suc count) [] = []
cut (suc count) (tag ∷ bytes) = record_in (tag ∷ bytes) ∷ cut count (drop (unwrap_or (size_of tag) 0) (tag ∷ bytes))

-- the records whose bytes these are
abbrev pub records_in : List ℕ → List Record
records_in bytes = cut (length bytes) bytes

-- the bytes are those of whole records, as logs of version 2 have them
pub record IsWhole (bytes : List ℕ) : Type 0 where
  pub fit : AllByRecursion (Fits 2) (records_in bytes)
  pub joined : flat_map bytes_of (records_in bytes) ≡ bytes

-- the first of them has so many bytes, and after them are whole records too
pub record Oldest (bytes : List ℕ) (size : ℕ) : Type 0 where
  pub first : Record
  pub within : size ≤ length bytes
  pub some : 2 ≤ size
  pub records : records_in bytes ≡ first ∷ records_in (drop size bytes)
  pub whole : IsWhole (drop size bytes)
