-- What the tests of a slice mean. The rows are those up to the given one, whose place is n.
use Rattle.std.specs.Prelude.{◌≡◌, ◌↔◌, ℕ, ◌+◌, List, [], ◌∷◌, length, drop, slice_get, Bool, false, Option, Some, None, IsTrue}
use Rattle.slice_back.specs.declared.noted.Noted.{Noted}
use Rattle.slice_back.specs.Needs.{InSlice, TakenBy, FromBefore}
use Rattle.slice_back.specs.Slices.{live, in_slice, taken}

-- whether the first of some rows is in the slice of the last
abbrev pub chosen : List Noted → Bool
chosen [] = false
chosen (e ∷ later) = in_slice e later

-- the word that the first of some rows takes for the slice of the last
abbrev pub taken_first : List Noted → Option (ℕ × ℕ)
taken_first [] = None
taken_first (e ∷ later) = taken (in_slice e later) (live later) e

-- the rows that are told are those of the least set
abbrev pub RowsAreLeast : Type 0
RowsAreLeast = (es : List Noted) (n m : ℕ) → length es ≡ n + 1 → (IsTrue (chosen (drop m es)) ↔ InSlice es n m)

-- the registers that are told are those that a row of the slice has from before the interval
abbrev pub RegistersAreFromBefore : Type 0
RegistersAreFromBefore = (es : List Noted) (n q : ℕ) → length es ≡ n + 1 → (IsTrue ((live es).registers q) ↔ ((j : ℕ) × InSlice es n j × FromBefore es j q))

-- the row at m took a first load with value v
abbrev pub Took : List Noted → ℕ → ℕ → Type 0
Took es m v = (e : Noted) × (slice_get es m ≡ Some e) × (e.first_load ≡ Some v)

-- the words that are told are those that a row of the slice has as taken
abbrev pub WordsAreTaken : Type 0
WordsAreTaken = (es : List Noted) (n m a v : ℕ) → length es ≡ n + 1 → ((taken_first (drop m es) ≡ Some (a, v)) ↔ (Took es m v × ((j : ℕ) × InSlice es n j × TakenBy es j m a)))
