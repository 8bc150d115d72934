-- The bytes of a record, and which records the log has.
use Rattle.std.specs.Prelude.{ℕ, ◌<◌, ◌^◌, ◌≡◌, ◌==◌, ◌&&◌, ◌||◌, not, nat_le, nat_lt, Bool, true, List, [], ◌∷◌, ◌++◌, drop, length, Option, Some, None, if◌then◌else◌, IsTrue}
use Rattle.std.specs.List.{flat_map, AllByRecursion}
use Rattle.bn_base.specs.declared.end_mark.EndMark.{EndMark}
use Rattle.le_numbers.specs.Numbers.{number_bytes}
use Rattle.log_record.specs.declared.record.Record.{Record}
use Rattle.log_record.specs.declared.record.Record.TheVariants.{Header, FirstLoad, ScOk, ScFailed, Edge, End}

-- the byte that begins a record of this kind
abbrev pub tag_of : Record → ℕ
tag_of (Header h n ic pc x) = 1
tag_of (FirstLoad h skip value) = 2
tag_of (ScOk h) = 3
tag_of (ScFailed h) = 4
tag_of (Edge h ic s j) = 5
tag_of (End h mark) = 6

-- the hart that a record belongs to
abbrev pub hart_of : Record → ℕ
hart_of (Header h n ic pc x) = h
hart_of (FirstLoad h skip value) = h
hart_of (ScOk h) = h
hart_of (ScFailed h) = h
hart_of (Edge h ic s j) = h
hart_of (End h mark) = h

-- how many bytes a record that begins with this byte has
abbrev pub size_of : ℕ → Option ℕ
size_of tag =
    if tag == 1 then Some 146 else
    if tag == 2 then Some 10 else
    if tag == 3 then Some 2 else
    if tag == 4 then Some 2 else
    if tag == 5 then Some 19 else
    if tag == 6 then Some 15 else
    None

-- the bytes of a record: its tag, its hart, and then its fields in their order
abbrev pub bytes_of : Record → List ℕ
bytes_of (Header h n ic pc x) = 1 ∷ h ∷ number_bytes 8 n ++ number_bytes 8 ic ++ number_bytes 4 pc ++ flat_map (number_bytes 4) (drop 1 x)
bytes_of (FirstLoad h skip value) = 2 ∷ h ∷ number_bytes 4 skip ++ number_bytes 4 value
bytes_of (ScOk h) = 3 ∷ h ∷ []
bytes_of (ScFailed h) = 4 ∷ h ∷ []
bytes_of (Edge h ic s j) = 5 ∷ h ∷ number_bytes 8 ic ++ s ∷ number_bytes 8 j
bytes_of (End h mark) = 6 ∷ h ∷ number_bytes 8 mark.ic ++ mark.reason ∷ number_bytes 4 mark.value

-- the reasons of an end whose value says something: a call, an exit, an exit of all harts, and the faults but the breakpoint
abbrev pub has_value : ℕ → Bool
has_value reason = reason == 2 || reason == 3 || reason == 4 || (nat_lt 16 reason && nat_le reason 25 && not (reason == 18))

-- the reasons of an end whose value is 0: the full length, a stop by another hart, the limit, and the breakpoint; in a log of version 2 also the guard
abbrev pub has_no_value : ℕ → ℕ → Bool
has_no_value format reason = reason == 1 || reason == 5 || reason == 7 || reason == 18 || ((format == 2) && (reason == 6))

-- an interval can end so in a log of this version
abbrev pub is_mark : ℕ → EndMark → Bool
is_mark format mark = has_value mark.reason || (has_no_value format mark.reason && (mark.value == 0))

-- the mark of an End is one of those; other records have none
abbrev pub is_marked : ℕ → Record → Bool
is_marked format (Header h n ic pc x) = true
is_marked format (FirstLoad h skip value) = true
is_marked format (ScOk h) = true
is_marked format (ScFailed h) = true
is_marked format (Edge h ic s j) = true
is_marked format (End h mark) = is_mark format mark

-- the contents of the registers: 32 words, the first 0
pub record AreRegisters (x : List ℕ) : Type 0 where
  pub others : List ℕ
  pub zero_first : x ≡ 0 ∷ others
  pub count : length others ≡ 31
  pub are_words : AllByRecursion (λ w. w < 2 ^ 32) others

-- a record's numbers fit their fields
abbrev pub FitsFields : Record → Type 0
FitsFields (Header h n ic pc x) = (h < 256) × (n < 2 ^ 64) × (ic < 2 ^ 64) × (pc < 2 ^ 32) × AreRegisters x
FitsFields (FirstLoad h skip value) = (h < 256) × (skip < 2 ^ 32) × (value < 2 ^ 32)
FitsFields (ScOk h) = h < 256
FitsFields (ScFailed h) = h < 256
FitsFields (Edge h ic s j) = (h < 256) × (ic < 2 ^ 64) × (s < 256) × (j < 2 ^ 64)
FitsFields (End h mark) = (h < 256) × (mark.ic < 2 ^ 64) × (mark.reason < 256) × (mark.value < 2 ^ 32)

-- a log of this version can have the record: its numbers fit their fields, and an End's reason and value are the version's. Version
-- 2 has one reason more than version 1, the guard's, with value 0
pub record Fits (format : ℕ) (r : Record) : Type 0 where
  pub fields : FitsFields r
  pub mark : IsTrue (is_marked format r)

-- how many bytes records have together
abbrev pub total : List Record → ℕ
total rs = length (flat_map bytes_of rs)

-- the bytes begin with those of a record that a log of this version has, and which has so many
pub record BeginsWith (format : ℕ) (bytes : List ℕ) (r : Record) (n : ℕ) : Type 0 where
  pub fits : Fits format r
  pub size : n ≡ length (bytes_of r)
  pub parts : bytes ≡ bytes_of r ++ drop n bytes
