-- Rows as they are noted up to the one with a count.
use Rattle.std.specs.Prelude.{◌≡◌, ◌⊎◌, ℕ, ◌<◌, ◌++◌, Bool, true, false, List, length, Option, Some, None}
use Rattle.slice_back.specs.Common.{Row, Replayed, Done, Refused, outcome_only, Pending}
use Rattle.hart_replay.specs.declared.error.ReplayError.{ReplayError}
use Rattle.hart_replay.specs.declared.error.ReplayError.TheVariants.{NoInterval, LoadMissing, ScMissing, RecordsLeft, EndDiffers, OutOfMemory}
use Rattle.slice_back.specs.declared.noted.Noted.{Noted}
use Rattle.slice_back.specs.declared.error.SliceError.{SliceError}
use Rattle.slice_back.specs.declared.error.SliceError.TheVariants.{Replay, NoRow}
use Rattle.slice_back.specs.declared.error.SliceError.TheVariants as ends
use Rattle.slice_back.specs.Slices.{noted, noted_from, up_to}

-- what is noted: the count of the last row that is wanted, what is still to be met, the rows so far, and whether that row is met
pub record Tracing : Type 0 where
  pub ic : ℕ
  pub loads : Pending
  pub noted : List Noted
  pub found : Bool

-- some rows before others, if there are any
abbrev pub behind : List Noted → Option (List Noted) → Option (List Noted)
behind front None = None
behind front (Some es) = Some (front ++ es)

-- the rows that are noted at the end, if these rows are still to come
abbrev pub reached : Tracing → List Row → Option (List Noted)
reached t rows = elim t.found [ true ↦ Some t.noted | false ↦ behind t.noted (up_to t.ic (noted_from t.loads rows)) ]

-- ---- how a replay is gone through to its end

-- the error of a replay as one of a slice; out of memory is its own
abbrev pub error_of : ReplayError → SliceError
error_of (NoInterval h c) = Replay (NoInterval h c)
error_of (LoadMissing h ic a) = Replay (LoadMissing h ic a)
error_of (ScMissing h ic) = Replay (ScMissing h ic)
error_of (RecordsLeft h n) = Replay (RecordsLeft h n)
error_of (EndDiffers h m n) = Replay (EndDiffers h m n)
error_of OutOfMemory = ends.OutOfMemory

-- the error comes if a replay ends so: a refusal is its own; it may run out of memory, but only if the replay has a row, or
-- found no memory itself
abbrev pub IsStop : Replayed → SliceError → Type 0
IsStop y (Replay e) = y.outcome ≡ Refused e
IsStop y (NoRow ic) = ⊥
IsStop y ends.OutOfMemory = (y.outcome ≡ Refused OutOfMemory) ⊎ (0 < length y.rows)

-- How a replay ends whose rows aren't noted, and what is left of it then. A refusal is told as it is. Out of memory comes only
-- if the replay is done, or finds no memory itself
abbrev pub EndsUnnoted : Replayed → SliceError → Replayed → Type 0
EndsUnnoted y (Replay e) left = y.outcome ≡ Refused e
EndsUnnoted y (NoRow ic) left = ⊥
EndsUnnoted y ends.OutOfMemory left = (y.outcome ≡ Done) ⊎ (left ≡ outcome_only (Refused OutOfMemory))

-- the rows that are noted of a whole replay that is done, if the wanted one is among them
abbrev pub IsTraced : ℕ → List (ℕ × ℕ) → Replayed → Option (List Noted) → Type 0
IsTraced ic loads y found = (y.outcome ≡ Done) × (up_to ic (noted loads y.rows) ≡ found)
