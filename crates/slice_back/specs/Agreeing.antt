-- Two intervals that agree on what a slice says it took.
use Rattle.std.specs.Prelude.{◌≡◌, ℕ, List, [], ◌∷◌, map, slice_index, Option, Some, None, IsTrue}
use Rattle.slice_back.specs.Common.{Program, Row, Record, Interval, interval_of, replayed}
use Rattle.log_record.specs.Spelling.{AreRegisters}
use Rattle.slice_back.specs.declared.noted.Noted.{Noted}
use Rattle.slice_back.specs.Uses.{used_word}
use Rattle.slice_back.specs.Slices.{noted, up_to, live, slice_rows}
use Rattle.slice_back.specs.Laws.{taken_first}

-- a row without its hart and its count
abbrev pub bare : Row → Row
bare r = record { hart = 0; ic = 0; pc = r.pc; word = r.word; reg = r.reg; load = r.load; store = r.store; fault = r.fault }

-- the address of an access, if there is one
abbrev pub address_of : Option (ℕ × ℕ) → Option ℕ
address_of None = None
address_of (Some x) = Some x.0

-- the aligned word of which a row took a first load
abbrev pub took_word : Noted → Option ℕ
took_word e = elim (e.first_load) [ None ↦ None | Some v ↦ used_word e.row ]

-- two rows have one pc and one word, stored at one address or both didn't (a store-conditional stores if it succeeds), and took
-- first loads of one word or both took none
pub record AreAlike (e f : Noted) : Type 0 where
  pub pc : e.row.pc ≡ f.row.pc
  pub word : e.row.word ≡ f.row.word
  pub store : address_of e.row.store ≡ address_of f.row.store
  pub took : took_word e ≡ took_word f

-- row by row, and as many
abbrev pub AllAlike : List Noted → List Noted → Type 0
AllAlike [] [] = Unit {0}
AllAlike (e ∷ es) (f ∷ fs) = AreAlike e f × AllAlike es fs
AllAlike [] (f ∷ fs) = ⊥
AllAlike (e ∷ es) [] = ⊥

-- if a first load of the former rows is among the words of their slice, that of the same row of the latter has its value
abbrev pub WordsAgree : List Noted → List Noted → Type 0
WordsAgree [] fs = Unit {0}
WordsAgree (e ∷ es) [] = ⊥
WordsAgree (e ∷ es) (f ∷ fs) = ((a v : ℕ) → taken_first (e ∷ es) ≡ Some (a, v) → f.first_load ≡ Some v) × WordsAgree es fs

-- two intervals agree up to rows of theirs: row by row, on the reasons and values of their Ends, and on the registers and words
-- of the slice of the last row of the former
pub record Agree (v w : Interval) (es fs : List Noted) : Type 0 where
  pub rows : AllAlike es fs
  pub reason : v.mark.reason ≡ w.mark.reason
  pub value : v.mark.value ≡ w.mark.value
  pub regs : (q : ℕ) → IsTrue ((live es).registers q) → slice_index v.start.x q ≡ slice_index w.start.x q
  pub words : WordsAgree es fs

-- the rows of an interval of a hart up to that of a count, as they are noted
pub record RowsUpTo (i : Program) (records : List Record) (h c ic : ℕ) (v : Interval) (es : List Noted) : Type 0 where
  pub found : interval_of h c records ≡ Some v
  pub registers : AreRegisters v.start.x
  pub rows : up_to ic (noted v.loads (replayed i records h c).rows) ≡ Some es

-- the slices of two intervals that agree have the same rows, hart and counts aside
abbrev pub SliceSuffices : Type 0
SliceSuffices = (i : Program) (records others : List Record) (h c ic g d jc : ℕ) (v w : Interval) (es fs : List Noted)
    → RowsUpTo i records h c ic v es → RowsUpTo i others g d jc w fs → Agree v w es fs → map bare (slice_rows es) ≡ map bare (slice_rows fs)
