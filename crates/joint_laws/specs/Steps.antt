-- What the steps of a joint replay tell.
use Rattle.std.specs.Prelude.{◌≡◌, ◌≢◌, ℕ, ◌<◌, ◌==◌, true, false, List, [], ◌∷◌, ◌++◌, slice_get, Option, Some, None}
use Rattle.joint_laws.specs.Common.{Row, Item, Passing, Doing, Ending, Taken, Did, Point}
use Rattle.row_laws.specs.Words.{word_told}

-- step number x from the latest did the instruction of a point
abbrev pub DidPoint : List Taken → ℕ → Point → Type 0
DidPoint taken x p = Did taken x p.hart p.count

-- one step did the instruction of p, and a later one that of q
abbrev pub DidBefore : List Taken → Point → Point → Type 0
DidBefore taken p q = (x : ℕ) × (y : ℕ) × DidPoint taken x p × DidPoint taken y q × (y < x)

-- the word at the aligned address a that the row of a step stored, else loaded
abbrev pub told_by : ℕ → Item → Option ℕ
told_by a (Passing ic) = None
told_by a (Doing before row) = word_told row a
told_by a (Ending n m) = None

-- step number x from the latest is the latest whose row stored or loaded the word
pub record IsLastTold (taken : List Taken) (a x : ℕ) : Type 0 where
  pub step : Taken
  pub at : slice_get taken x ≡ Some step
  pub tells : told_by a step.item ≢ None
  pub no_later : (y : ℕ) (t : Taken) → y < x → slice_get taken y ≡ Some t → told_by a t.item ≡ None

-- the row of a step, if it has one
abbrev pub row_in : Item → List Row
row_in (Passing ic) = []
row_in (Doing before row) = row ∷ []
row_in (Ending n m) = []

-- the rows of hart h, oldest first, in steps that are given latest first
abbrev pub rows_done : ℕ → List Taken → List Row
rows_done h [] = []
rows_done h (t ∷ ts) = elim (t.hart == h) [ true ↦ rows_done h ts ++ row_in t.item | false ↦ rows_done h ts ]
