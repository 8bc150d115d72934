-- What holds of each hart at each time, in the replay of any log in order.
use Rattle.std.specs.Prelude.{◌≡◌, ◌⊎◌, ℕ, ◌<◌, ◌≤◌, true, List, [], ◌∷◌, Option, Some, None, Result, Ok, Err}
use Rattle.joint_replay.specs.Common.{Program, ReplayError}
use Rattle.joint_replay.specs.Lanes.{Cursor, Lane, Item, Passing, Doing, Ending, point_of}
use Rattle.joint_replay.specs.Joining.{is_passed}
use Rattle.joint_replay.specs.Counts.{RowsFrom}

-- the rows that are left of an interval continue from the hart's state, up to the End's count
abbrev pub GoesOn : Program → Cursor → Type 0
GoesOn i c = (c.state.ic ≤ c.mark.ic) × RowsFrom i c.mark.ic c.left.outcome c.state c.left.rows

-- each interval begins at the count at which the one before it ends
abbrev pub AreFrom : Program → Cursor → List Cursor → Type 0
AreFrom i c [] = GoesOn i c
AreFrom i c (d ∷ ds) = GoesOn i c × (d.state.ic ≡ c.mark.ic) × AreFrom i d ds

-- the same of all intervals, of which there may be none
abbrev pub AreCursors : Program → List Cursor → Type 0
AreCursors i [] = Unit {0}
AreCursors i (c ∷ cs) = AreFrom i c cs

-- a count below the intervals'
abbrev pub IsBelow : ℕ → List Cursor → Type 0
IsBelow p [] = Unit {0}
IsBelow p (c ∷ cs) = p < c.state.ic

-- the ordering points ascend, below the intervals' counts
abbrev pub ArePoints : List ℕ → List Cursor → Type 0
ArePoints [] cs = Unit {0}
ArePoints (p ∷ []) cs = IsBelow p cs
ArePoints (p ∷ q ∷ qs) cs = (p < q) × ArePoints (q ∷ qs) cs

-- what a hart of a log in order has: its ordering points ascend, below its intervals, and each interval begins at the end of
-- the one before it
pub record IsLane (i : Program) (lane : Lane) : Type 0 where
  pub points : ArePoints lane.points lane.cursors
  pub cursors : AreCursors i lane.cursors

-- ---- the points of a hart that Edges name

-- a count is among these
abbrev pub Has : List ℕ → ℕ → Type 0
Has [] k = ⊥
Has (p ∷ ps) k = (p ≡ k) ⊎ Has ps k

-- the count at the end of the last interval
abbrev pub last_count : Cursor → List Cursor → ℕ
last_count c [] = c.mark.ic
last_count c (d ∷ ds) = last_count d ds

-- instruction k is still to be done in the intervals
abbrev pub InCursors : List Cursor → ℕ → Type 0
InCursors [] k = ⊥
InCursors (c ∷ cs) k = (c.state.ic ≤ k) × (k < last_count c cs)

-- instruction k of the hart is passed, or still to be passed, or still to be done
abbrev pub IsOn : Lane → ℕ → Type 0
IsOn lane k = (is_passed (Some lane) k ≡ true) ⊎ (Has lane.points k ⊎ InCursors lane.cursors k)

-- a step did an instruction of this count, and no fault
abbrev pub IsRowAt : ℕ → Item → Type 0
IsRowAt count (Passing ic) = ⊥
IsRowAt count (Doing before row) = (row.ic ≡ count) × (row.fault ≡ None)
IsRowAt count (Ending n m) = ⊥

-- a step of the hart: what is passed stays so, and of the instructions on its way only the one at the step's point may be
-- passed by it. What is still to be done stays so, but for the one that it did
pub record Passes (i : Program) (old : Lane) (item : Item) (new : Lane) : Type 0 where
  pub lane : IsLane i new
  pub stays : (k : ℕ) → is_passed (Some old) k ≡ true → is_passed (Some new) k ≡ true
  pub one : (k : ℕ) → IsOn old k → is_passed (Some new) k ≡ true → (is_passed (Some old) k ≡ true) ⊎ (point_of old ≡ Some k)
  pub on : (k : ℕ) → IsOn old k → IsOn new k
  pub rows : (k : ℕ) → InCursors old.cursors k → InCursors new.cursors k ⊎ IsRowAt k item
  pub at : (n : ℕ) → IsRowAt n item → (point_of old ≡ Some n) × ((k : ℕ) → k < n → is_passed (Some old) k ≡ true)

-- the same of a hart that may have no step, or whose step is refused: nothing is said then
abbrev pub PassesIf : Program → Lane → Option (Result (Item × Lane) ReplayError) → Type 0
PassesIf i lane None = Unit {0}
PassesIf i lane (Some (Err e)) = Unit {0}
PassesIf i lane (Some (Ok x)) = Passes i lane x.0 x.1
