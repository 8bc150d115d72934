-- The points of a joint replay that access words.
use Rattle.std.specs.Prelude.{◌≡◌, ℕ, zero, suc, ◌+◌, ◌/◌, ◌%◌, ◌^◌, ◌==◌, nat_lt, nat_le, Bool, true, false, ◌&&◌, ◌||◌}
use Rattle.std.specs.Prelude.{List, [], ◌∷◌, ◌++◌, map, slice_index, Option, Some, None}
use Rattle.race_report.specs.Common.{Row, HartState, Access, Item, Passing, Doing, Ending, Bytes, call_result, filled, Taken}
use Rattle.rv_decode.specs.declared.name.Name.{Name}
use Rattle.rv_decode.specs.declared.name.Name.TheVariants.{LrW, ScW, AmoswapW, AmoaddW, AmoxorW, AmoandW, AmoorW, AmominW, AmomaxW, AmominuW, AmomaxuW}
use Rattle.rv_decode.specs.Table.{Instruction, decoded}
use Rattle.rv_meaning.specs.Words.{aligned}
use Rattle.race_report.specs.declared.calls.Asked.{Asked}
use Rattle.race_report.specs.declared.touch.Touch.{Touch}

-- ---- what a row accesses

-- the bytes that a successful write call took: its number is 64, a0 is 1 or 2 before it, and its result is 1 to 4,096
abbrev pub sent : HartState → Row → Option Bytes
sent before row = elim (call_result 64 before row) [
  | None ↦ None
  | Some n ↦ elim ((slice_index before.x 10 == 1 || (slice_index before.x 10 == 2)) && (nat_lt 0 n && nat_le n 4096)) [ true ↦ Some (record { first = slice_index before.x 11; count = n }) | false ↦ None ]
]

-- what the registers ask of a system call
abbrev pub asked_by : HartState → Asked
asked_by s = record { number = slice_index s.x 17; stream = slice_index s.x 10; buffer = slice_index s.x 11 }

-- the words that some bytes are of
abbrev pub words_with : Option Bytes → Bool → Option Touch
words_with None writes = None
words_with (Some b) writes = Some (record { first = aligned b.first; count = (b.first % 4 + b.count + 3) / 4; writes = writes; syncs = false })

-- the first of two
abbrev pub or_else : Option Touch → Option Touch → Option Touch
or_else None other = other
or_else (Some t) other = Some t

-- LR, SC and the AMOs
abbrev pub is_atomic_name : Name → Bool
is_atomic_name LrW = true
is_atomic_name ScW = true
is_atomic_name AmoswapW = true
is_atomic_name AmoaddW = true
is_atomic_name AmoxorW = true
is_atomic_name AmoandW = true
is_atomic_name AmoorW = true
is_atomic_name AmominW = true
is_atomic_name AmomaxW = true
is_atomic_name AmominuW = true
is_atomic_name AmomaxuW = true
is_atomic_name n = false

-- the same of an instruction, if there is one
abbrev pub is_atomic_instruction : Option Instruction → Bool
is_atomic_instruction None = false
is_atomic_instruction (Some i) = is_atomic_name i.name

-- the row is of an LR, SC or AMO
abbrev pub is_atomic : Row → Bool
is_atomic row = elim row.word [ None ↦ false | Some w ↦ is_atomic_instruction (decoded w) ]

-- the word of a load or store; an SC that failed has none
abbrev pub word_with : Option (ℕ × ℕ) → Bool → Bool → Option Touch
word_with None writes syncs = None
word_with (Some access) writes syncs = Some (record { first = aligned access.0; count = 1; writes = writes; syncs = syncs })

-- the words that a read call fills, or a write call takes
abbrev pub call_touch : HartState → Row → Option Touch
call_touch before row = or_else (words_with (filled before row) true) (words_with (sent before row) false)

-- the word of a load, else the words of a call
abbrev pub loaded_touch : HartState → Row → Option Touch
loaded_touch before row = or_else (word_with row.load false (is_atomic row)) (call_touch before row)

-- what an instruction accesses: the word that it stores, which an AMO loads too; else the word that it loads; else the words of a
-- call. A row of a fault is no point
abbrev pub touch_of : HartState → Row → Option Touch
touch_of before row = elim row.fault [ Some f ↦ None | None ↦ or_else (word_with row.store true (is_atomic row)) (loaded_touch before row) ]

-- whole words, and one of them if it is a sync point
pub record IsTouch (t : Touch) : Type 0 where
  pub aligned : t.first % 4 ≡ 0
  pub one : t.syncs ≡ true → t.count ≡ 1

-- aligned words one after another; after the last word of the address space the first one follows
abbrev pub words_from : ℕ → ℕ → List ℕ
words_from first zero = []
words_from first (suc n) = first ∷ words_from ((first + 4) % 2 ^ 32) n

-- the accesses of the words of a `Touch`
abbrev pub accesses_of : Touch → List Access
accesses_of t = map (λ w. record { word = w; writes = t.writes }) (words_from t.first t.count)

-- ---- the points

-- an instruction of a retained interval that accesses words: its hart, its row, and what it accesses
pub record Accessing : Type 0 where
  pub hart : ℕ
  pub row : Row
  pub touch : Touch

-- an instruction as a point, if it accesses words
abbrev pub accessing : ℕ → Row → Option Touch → List Accessing
accessing h row None = []
accessing h row (Some t) = record { hart = h; row = row; touch = t } ∷ []

-- the point that a step did, if it did one
abbrev pub point_in : ℕ → Item → List Accessing
point_in h (Passing ic) = []
point_in h (Doing before row) = accessing h row (touch_of before row)
point_in h (Ending n m) = []

-- the points of steps that are given latest first, in the order in which they were done
abbrev pub points_of : List Taken → List Accessing
points_of [] = []
points_of (t ∷ ts) = points_of ts ++ point_in t.hart t.item
