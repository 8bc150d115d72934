-- The backward slice of a row of an interval, by tests that compute. It is of the rows of the interval's replay, whatever its
-- log says.
use Rattle.std.specs.Prelude.{ℕ, zero, suc, ◌+◌, ◌==◌, Bool, true, false, not, ◌&&◌, ◌||◌, List, [], ◌∷◌, slice_index, Option, Some, None, Result, Ok, Err}
use Rattle.slice_back.specs.Common.{Program, Row, Record, Replayed, Done, Refused, Interval, interval_of, replayed, Pending, due, met}
use Rattle.slice_back.specs.declared.noted.Noted.{Noted}
use Rattle.slice_back.specs.declared.lists.Slice.{Slice}
use Rattle.slice_back.specs.declared.error.SliceError.{SliceError}
use Rattle.slice_back.specs.declared.error.SliceError.TheVariants.{Replay, NoRow}
use Rattle.slice_back.specs.Uses.{uses_register, writes_register, used_word, uses_word, stores_word, takes_word, is_branch, word_of}

-- ---- the rows with the first loads that they took

-- a row with the first load that it takes: a loading access takes the next one if as many were skipped since the last one as
-- that says
abbrev pub note : Pending → Row → Noted
note p r = record { row = r; first_load = elim (used_word r) [ None ↦ None | Some a ↦ due p.skipped p.loads ] }

-- what is still to be met after it
abbrev pub passed : Pending → Row → Pending
passed p r = elim (used_word r) [ None ↦ p | Some a ↦ met p.skipped p.loads ]

-- rows, oldest first
abbrev pub noted_from : Pending → List Row → List Noted
noted_from p [] = []
noted_from p (r ∷ rs) = note p r ∷ noted_from (passed p r) rs

-- the rows of an interval, each with the first load that it takes; a row itself doesn't tell that
abbrev pub noted : List (ℕ × ℕ) → List Row → List Noted
noted loads rows = noted_from (record { loads = loads; skipped = 0 }) rows

-- a row before others, if there are any
abbrev pub before : Noted → Option (List Noted) → Option (List Noted)
before e None = None
before e (Some es) = Some (e ∷ es)

-- the rows up to that with a count, if there is one
abbrev pub up_to : ℕ → List Noted → Option (List Noted)
up_to ic [] = None
up_to ic (e ∷ es) = elim (e.row.ic == ic) [ true ↦ Some (e ∷ []) | false ↦ before e (up_to ic es) ]

-- ---- the rows of the slice

-- what rows of the slice use that no row told so far gives them: registers, and aligned words
pub record Live : Type 0 where
  pub registers : ℕ → Bool
  pub words : ℕ → Bool

-- whether a row writes a register or stores a word that is live after it
abbrev pub writes_live : Live → Option (ℕ × ℕ) → Bool
writes_live l None = false
writes_live l (Some x) = l.registers x.0

-- the same of a row's aligned word, if it stored one
abbrev pub stores_live : Live → Option ℕ → Bool
stores_live l None = false
stores_live l (Some a) = l.words a

-- whether a row gives something that is live after it
abbrev pub gives : Live → Row → Bool
gives l r = writes_live l r.reg || stores_live l (word_of r.store)

-- whether no row comes after one
abbrev pub is_last : List Noted → Bool
is_last [] = true
is_last (e ∷ es) = false

-- what is live before a row, by what is live after it and whether the row is in the slice. What is live after it stays so,
-- unless the row writes, stores or takes it. A row in the slice adds what it uses, but for a word that it takes from the log
abbrev pub live_before : Bool → Noted → Live → Live
live_before chosen e l = record {
  registers = λ q. (chosen && uses_register q e.row) || (not (writes_register q e.row) && l.registers q);
  words = λ a. not (takes_word a e) && ((chosen && uses_word a e.row) || (not (stores_word a e.row) && l.words a));
}

-- what is live before rows, up to the given one, which is the last
abbrev pub live : List Noted → Live
live [] = record { registers = λ q. false; words = λ a. false }
live (e ∷ later) = let l : Live = live later in live_before (is_last later || gives l e.row) e l

-- whether a row is in the slice of the last of the rows after it: it is itself that row, or gives what these use
abbrev pub in_slice : Noted → List Noted → Bool
in_slice e later = is_last later || gives (live later) e.row

-- ---- its four lists, of rows up to the given one

-- a row before others, if it is chosen
abbrev pub row_if : Bool → Row → List Row → List Row
row_if true r rs = r ∷ rs
row_if false r rs = rs

-- the rows of the slice
abbrev pub slice_rows : List Noted → List Row
slice_rows [] = []
slice_rows (e ∷ later) = row_if (in_slice e later) e.row (slice_rows later)

-- the rows of branches that aren't in it
abbrev pub slice_branches : List Noted → List Row
slice_branches [] = []
slice_branches (e ∷ later) = row_if (not (in_slice e later) && is_branch e.row) e.row (slice_branches later)

-- the word at a with the value of the first load, if it is wanted
abbrev pub wanted : Bool → ℕ → ℕ → Option (ℕ × ℕ)
wanted true a v = Some (a, v)
wanted false a v = None

-- the word that a row takes from the log for a row of the slice: for itself, or for a later one, which has it unless this row
-- stores it
abbrev pub taken : Bool → Live → Noted → Option (ℕ × ℕ)
taken chosen l e = elim (used_word e.row) [
  | None ↦ None
  | Some a ↦ elim (e.first_load) [ None ↦ None | Some v ↦ wanted (chosen || (not (stores_word a e.row) && l.words a)) a v ]
]

-- a word with a count before others, if there is one
abbrev pub word_if : ℕ → Option (ℕ × ℕ) → List (ℕ × ℕ × ℕ) → List (ℕ × ℕ × ℕ)
word_if ic None more = more
word_if ic (Some w) more = (ic, w.0, w.1) ∷ more

-- the words that its rows have as taken, each with the count of the row that takes it
abbrev pub slice_words : List Noted → List (ℕ × ℕ × ℕ)
slice_words [] = []
slice_words (e ∷ later) = word_if e.row.ic (taken (in_slice e later) (live later) e) (slice_words later)

-- a register before others, if it is chosen
abbrev pub register_if : Bool → ℕ × ℕ → List (ℕ × ℕ) → List (ℕ × ℕ)
register_if true r rs = r ∷ rs
register_if false r rs = rs

-- the registers from q on, n of them, that its rows use and no row before them wrote, with their contents x at the start
unfoldable pub registers_from : List ℕ → (ℕ → Bool) → ℕ → ℕ → List (ℕ × ℕ)
registers_from x used q zero = []
registers_from x used q (suc n) = register_if (used q) (q, slice_index x q) (registers_from x used (q + 1) n)

-- the registers that its rows use and no row before them wrote, with their contents at the interval's start
abbrev pub slice_regs : List ℕ → List Noted → List (ℕ × ℕ)
slice_regs x es = registers_from x (live es).registers 0 32

-- the slice of the last of some rows, by the registers at their start
abbrev pub slice_of : List ℕ → List Noted → Slice
slice_of x es = record { rows = slice_rows es; regs = slice_regs x es; words = slice_words es; branches = slice_branches es }

-- ---- of an interval

-- the slice of the last of some rows, or the refusal if there is no row of this count
abbrev pub slice_or : ℕ → List ℕ → Option (List Noted) → Result Slice SliceError
slice_or ic x None = Err (NoRow ic)
slice_or ic x (Some es) = Ok (slice_of x es)

-- the slice of the row with a count, if the replay is done
abbrev pub slice_in : ℕ → Option Interval → Replayed → Result Slice SliceError
slice_in ic None y = elim (y.outcome) [ Done ↦ Err (NoRow ic) | Refused e ↦ Err (Replay e) ]
slice_in ic (Some v) y = elim (y.outcome) [ Done ↦ slice_or ic v.start.x (up_to ic (noted v.loads y.rows)) | Refused e ↦ Err (Replay e) ]

-- the slice of the row with count ic in interval c of hart h
abbrev pub sliced : Program → List Record → ℕ → ℕ → ℕ → Result Slice SliceError
sliced i records h c ic = slice_in ic (interval_of h c records) (replayed i records h c)
