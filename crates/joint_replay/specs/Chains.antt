-- Chains of program order and Edges, and what allowed orders make of them.
use Rattle.std.specs.Prelude.{◌≡◌, ◌⊎◌, ℕ, ◌<◌, ◌≤◌, List, slice_get, Option, Some, None}
use Rattle.log_record.specs.declared.record.Record.{Record}
use Rattle.joint_replay.specs.Lanes.{Lane}
use Rattle.joint_replay.specs.Joining.{Joining, Taken}
use Rattle.joint_replay.specs.Ways.{InCursors, IsRowAt}
use Rattle.joint_replay.specs.Sound.{HasEdge}

-- from instruction j of hart s to a later one of the hart, or along an Edge
abbrev pub StepTo : List Record → (s j h ic : ℕ) → Type 0
StepTo records s j h ic = ((s ≡ h) × (j < ic)) ⊎ HasEdge records h ic s j

-- a chain of such steps leads from one instruction to another; it may lead through intervals that were given up
pub data Leads (records : List Record) (s j : ℕ) : ℕ → ℕ → Type 0 where
  one : {h ic : ℕ} → StepTo records s j h ic → Leads records s j h ic
  more : {k n h ic : ℕ} → Leads records s j k n → StepTo records k n h ic → Leads records s j h ic

-- step number x from the latest did instruction `count` of the hart
pub record Did (taken : List Taken) (x hart count : ℕ) : Type 0 where
  pub step : Taken
  pub at : slice_get taken x ≡ Some step
  pub hart_is : step.hart ≡ hart
  pub row : IsRowAt count step.item

-- instruction k of a hart is still to be done, if there is the hart
abbrev pub IsLeft : Option Lane → ℕ → Type 0
IsLeft None k = ⊥
IsLeft (Some lane) k = InCursors lane.cursors k

-- instruction k of hart h is still to be done; at the start these are those of the retained intervals
abbrev pub IsToDo : Joining → ℕ → ℕ → Type 0
IsToDo j h k = IsLeft (slice_get j.lanes h) k

-- instructions have times: they don't fall along a hart's counts, and each Edge's source has an earlier one than its target
pub record HaveTimes (records : List Record) (time : ℕ → ℕ → ℕ) : Type 0 where
  pub onward : (h j k : ℕ) → j ≤ k → time h j ≤ time h k
  pub across : (h ic s j : ℕ) → HasEdge records h ic s j → time s j < time h ic
