-- The record that the fields at the front of some bytes make, if there are bytes enough.
use Rattle.std.specs.Prelude.{ℕ, zero, suc, ◌+◌, ◌==◌, List, [], ◌∷◌, slice_index, if◌then◌else◌}
use Rattle.le_numbers.specs.Numbers.{number_at}
use Rattle.log_record.specs.declared.record.Record.{Record}
use Rattle.log_record.specs.declared.record.Record.TheVariants.{Header, FirstLoad, ScOk, ScFailed, Edge, End}

-- so many words from a place on, four bytes each
unfoldable pub words_at : ℕ → ℕ → List ℕ → List ℕ
words_at zero at bytes = []
words_at (suc count) at bytes = number_at 4 at bytes ∷ words_at count (at + 4) bytes

-- a Header of the fields at their places; register x0 isn't written, since it is 0
unfoldable pub header_in : List ℕ → Record
header_in bytes = Header (slice_index bytes 1) (number_at 8 2 bytes) (number_at 8 10 bytes) (number_at 4 18 bytes) (0 ∷ words_at 31 22 bytes)

-- a FirstLoad of the fields at their places
unfoldable pub first_load_in : List ℕ → Record
first_load_in bytes = FirstLoad (slice_index bytes 1) (number_at 4 2 bytes) (number_at 4 6 bytes)

-- an Edge of the fields at their places
unfoldable pub edge_in : List ℕ → Record
edge_in bytes = Edge (slice_index bytes 1) (number_at 8 2 bytes) (slice_index bytes 10) (number_at 8 11 bytes)

-- an End of the fields at their places
unfoldable pub end_in : List ℕ → Record
end_in bytes = End (slice_index bytes 1) (record { ic = number_at 8 2 bytes; reason = slice_index bytes 10; value = number_at 4 11 bytes })

-- the record that the bytes make by their first byte, the tag
unfoldable pub record_in : List ℕ → Record
record_in bytes =
    let tag = slice_index bytes 0 in
    if tag == 1 then header_in bytes else
    if tag == 2 then first_load_in bytes else
    if tag == 3 then ScOk (slice_index bytes 1) else
    if tag == 4 then ScFailed (slice_index bytes 1) else
    if tag == 5 then edge_in bytes else
    end_in bytes
