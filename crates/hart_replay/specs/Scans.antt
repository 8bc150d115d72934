-- How the records of an interval are gone through, those of first loads and those of store-conditionals by themselves.
use Rattle.std.specs.Prelude.{ℕ, ◌+◌, ◌≤◌, ◌==◌, Bool, true, false, List, [], ◌∷◌, Option, Some, None}
use Rattle.hart_replay.specs.Common.{EndMark, Record}
use Rattle.hart_replay.specs.Replay.{puts, nothing}

-- the first loads, the store-conditionals and the mark of hart h in records up to its next End
abbrev pub loads_in : ℕ → List Record → List (ℕ × ℕ)
loads_in h rs = (puts h rs nothing).loads

-- how the store-conditionals of a hart went, up to its next End
abbrev pub conditionals_in : ℕ → List Record → List Bool
conditionals_in h rs = (puts h rs nothing).conditionals

-- the mark of a hart's next End
abbrev pub mark_in : ℕ → List Record → EndMark
mark_in h rs = (puts h rs nothing).mark

-- an item, if there is one, before others; if there is none, there are no others
abbrev pub in_front : {A : Type 0} → Option A → List A → List A
in_front None xs = []
in_front (Some x) xs = x ∷ xs

-- what a record makes of the items after it: nothing, or it ends them, or it has one more
abbrev pub scanned : {A : Type 0} → Option (Option A) → List A → List A
scanned None xs = xs
scanned (Some o) xs = in_front o xs

-- the mark of a record that has one, else the one after it
abbrev pub mark_or : Option EndMark → EndMark → EndMark
mark_or None m = m
mark_or (Some n) m = n

-- first loads that are still to be met, and how many loading accesses were skipped since the last one
pub record Pending : Type 0 where
  pub loads : List (ℕ × ℕ)
  pub skipped : ℕ

-- the value of the first of some first loads, if a loading access after so many skipped ones meets it
abbrev pub due : ℕ → List (ℕ × ℕ) → Option ℕ
due skipped [] = None
due skipped (r ∷ rs) = elim (skipped == r.0) [ true ↦ Some r.1 | false ↦ None ]

-- what is still to be met after a loading access
abbrev pub met : ℕ → List (ℕ × ℕ) → Pending
met skipped [] = record { loads = []; skipped = skipped }
met skipped (r ∷ rs) = elim (skipped == r.0) [ true ↦ record { loads = rs; skipped = 0 } | false ↦ record { loads = r ∷ rs; skipped = skipped + 1 } ]

-- whether the first store-conditional succeeded
abbrev pub first_of : List Bool → Option Bool
first_of [] = None
first_of (b ∷ bs) = Some b

-- all but the first, if there is one
abbrev pub rest_of : List Bool → List Bool
rest_of [] = []
rest_of (b ∷ bs) = bs

-- no loading access passed the first one
abbrev pub IsWaiting : ℕ → List (ℕ × ℕ) → Type 0
IsWaiting skipped [] = Unit {0}
IsWaiting skipped (r ∷ rs) = skipped ≤ r.0
