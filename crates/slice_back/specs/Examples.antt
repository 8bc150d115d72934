-- Slices of small logs, written by hand.
use Rattle.std.specs.Prelude.{ℕ, ◌+◌, true, false, List, [], ◌∷◌, ◌++◌, length, map, take, codes, Option, Some, None, Result, Ok, Err}
use Rattle.slice_back.specs.Common.{Program, Row, replayed, Record}
use Rattle.log_record.specs.declared.record.Record.TheVariants.{Header, FirstLoad, End}
use Rattle.slice_back.specs.declared.lists.Slice.{Slice}
use Rattle.slice_back.specs.declared.error.SliceError.{SliceError}
use Rattle.slice_back.specs.declared.noted.Noted.{Noted}
use Rattle.slice_back.specs.Slices.{noted, sliced, slice_rows}
use Rattle.slice_back.specs.Agreeing.{bare}
use Rattle.slice_back.specs.Texts.{slice_text}

-- one read-only segment of code at 0x10054, run by one hart
abbrev pub code : List ℕ → Program
code words = record {
  parts = record { first = 0x10054; words = words; count = length words; executable = true; writable = false } ∷ [];
  entry = 0x10054;
  memory = 1048576;
  harts = 1;
}

-- the registers at its start: sp, a0 the hart, a1 the number of harts
abbrev pub start_registers : List ℕ
start_registers = 0 ∷ 0 ∷ 1048576 ∷ 0 ∷ 0 ∷ 0 ∷ 0 ∷ 0 ∷ 0 ∷ 0 ∷ 0 ∷ 1 ∷ 0 ∷ 0 ∷ 0 ∷ 0 ∷ 0 ∷ 0 ∷ 0 ∷ 0 ∷ 0 ∷ 0 ∷ 0 ∷ 0 ∷ 0 ∷ 0 ∷ 0 ∷ 0 ∷ 0 ∷ 0 ∷ 0 ∷ 0 ∷ []

-- the records of its one interval, with some first loads (skip, value)
abbrev pub kept : List (ℕ × ℕ) → ℕ → ℕ → ℕ → List Record
kept loads ic reason value = Header 0 0 0 0x10054 start_registers ∷ (map (λ l. FirstLoad 0 l.0 l.1) loads ++ End 0 (record { ic = ic; reason = reason; value = value }) ∷ [])

-- the slice of the row with a count, of a program that exits with 0 at its end
abbrev pub of_exit : List ℕ → List (ℕ × ℕ) → ℕ → Result Slice SliceError
of_exit words loads ic = sliced (code (words ++ 0x05d00893 ∷ 0x00000073 ∷ [])) (kept loads (length words + 2) 3 0) 0 0 ic

-- ---- what is shown of them

-- the counts of its rows, its registers and words, and the counts of its branches
abbrev pub shown : Result Slice SliceError → Option (List ℕ × List (ℕ × ℕ) × List (ℕ × ℕ × ℕ) × List ℕ)
shown (Err e) = None
shown (Ok s) = Some (map (λ r. r.ic) s.rows, s.regs, s.words, map (λ r. r.ic) s.branches)

-- the text of a slice
abbrev pub text_of : ℕ → ℕ → Result Slice SliceError → List ℕ
text_of hart ic (Err e) = []
text_of hart ic (Ok s) = slice_text hart ic s

-- ---- lui s0,0x20; sb a1,0(s0); lw t0,0(s0): the word under the byte comes from the log

-- the slice of the load
abbrev pub byte_store : Result Slice SliceError
byte_store = of_exit (0x00020437 ∷ 0x00b40023 ∷ 0x00042283 ∷ []) ((0, 0) ∷ []) 2

-- its text
abbrev pub byte_store_text : List ℕ
byte_store_text =
    codes "slice 0 2\n"
    ++ codes "0 0 00010054 00020437 lui s0,0x20 | s0=00020000\n"
    ++ codes "0 1 00010058 00b40023 sb a1,0(s0) | store 00020000=00000001\n"
    ++ codes "0 2 0001005c 00042283 lw t0,0(s0) | t0=00000001 | load 00020000=00000001\n"
    ++ codes "in a1=00000001\n"
    ++ codes "in 1 00020000=00000000\n"

-- ---- lw t0,0(zero): the first instruction faults, and uses nothing

-- the slice of the row with a count
abbrev pub fault : ℕ → Result Slice SliceError
fault ic = sliced (code (0x00002283 ∷ [])) (kept [] 0 21 0) 0 0 ic

-- the text of the slice of row 0
abbrev pub fault_text : List ℕ
fault_text = codes "slice 0 0\n" ++ codes "0 0 00010054 00002283 lw t0,0(zero) | fault LoadOutside 00000000\n"

-- ---- lui s0,0x20; sw a1,0(s0); lw t0,0(s0): the load needs the store

-- the slice of the load
abbrev pub word_store : Result Slice SliceError
word_store = of_exit (0x00020437 ∷ 0x00b42023 ∷ 0x00042283 ∷ []) [] 2

-- ---- lui s0,0x20; sw s0,0(s0); sb a1,0(s0); lw t0,0(s0): the byte's store needs the word under it

-- the slice of the load
abbrev pub byte_over_word : Result Slice SliceError
byte_over_word = of_exit (0x00020437 ∷ 0x00842023 ∷ 0x00b40023 ∷ 0x00042283 ∷ []) [] 3

-- ---- lui s0,0x20; lw t0,0(s0); sw a1,0(s0); lw t1,0(s0), which takes a first load: the store before it is none of its sources

-- the slice of the second load
abbrev pub load_after_store : Result Slice SliceError
load_after_store = of_exit (0x00020437 ∷ 0x00042283 ∷ 0x00b42023 ∷ 0x00042303 ∷ []) ((0, 5) ∷ (0, 7) ∷ []) 3

-- ---- lui s0,0x20; lw t0,0(s0); lw t1,0(s0): the word that the second load has was taken by the first, which it doesn't need

-- the slice of the second load
abbrev pub loaded_twice : Result Slice SliceError
loaded_twice = of_exit (0x00020437 ∷ 0x00042283 ∷ 0x00042303 ∷ []) ((0, 5) ∷ []) 2

-- ---- lui s0,0x20; addi a7,zero,93; bne a0,zero,20; sw a1,0(s0); lw t0,0(s0): neither the addition nor the branch is needed

-- the slice of the load
abbrev pub branch_before : Result Slice SliceError
branch_before = of_exit (0x00020437 ∷ 0x05d00893 ∷ 0x00051a63 ∷ 0x00b42023 ∷ 0x00042283 ∷ []) [] 4

-- ---- addi a0,zero,0; addi a7,zero,93; ecall: a system call uses its arguments and its number

-- the slice of the call
abbrev pub call : Result Slice SliceError
call = of_exit (0x00000513 ∷ []) [] 2

-- ---- lui s0,0x20; lw t0,0(s0); lw t1,4(s0): the first load has this value, and the second 7

-- the words of that program
abbrev pub apart_words : List ℕ
apart_words = 0x00020437 ∷ 0x00042283 ∷ 0x00442303 ∷ 0x05d00893 ∷ 0x00000073 ∷ []

-- the rows of that program up to the second load
abbrev pub apart_rows : ℕ → List Noted
apart_rows value = take 3 (noted ((0, value) ∷ (0, 7) ∷ []) (replayed (code apart_words) (kept ((0, value) ∷ (0, 7) ∷ []) 5 3 0) 0 0).rows)

-- those that are in the slice of the last, hart and counts aside
abbrev pub apart_slice : ℕ → List Row
apart_slice value = map bare (slice_rows (apart_rows value))

-- the value that each row took from the log
abbrev pub apart_loads : ℕ → List (Option ℕ)
apart_loads value = map (λ (e : Noted). e.first_load) (apart_rows value)
