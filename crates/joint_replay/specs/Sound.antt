-- What holds of all harts together, at each time, in the joint replay of any log in order.
use Rattle.std.specs.Prelude.{◌≡◌, ◌⊎◌, ℕ, true, List, [], ◌∷◌, slice_get, Option, Some, None}
use Rattle.joint_replay.specs.Common.{Record, Edge}
use Rattle.joint_replay.specs.Lanes.{Lane, Item}
use Rattle.joint_replay.specs.Joining.{Joining, is_passed}
use Rattle.joint_replay.specs.Ways.{IsLane, IsOn}

-- among the records is an Edge into instruction ic of hart h from instruction j of hart s
abbrev pub HasEdge : List Record → (h ic s j : ℕ) → Type 0
HasEdge [] h ic s j = ⊥
HasEdge (Edge k n a b ∷ rs) h ic s j = ((k ≡ h) × (n ≡ ic) × (a ≡ s) × (b ≡ j)) ⊎ HasEdge rs h ic s j
HasEdge (r ∷ rs) h ic s j = HasEdge rs h ic s j

-- each target of an Edge is on its hart's way, and if a target is passed, so is the Edge's source
pub record IsSound (now : Joining) : Type 0 where
  pub lanes : (h : ℕ) (lane : Lane) → slice_get now.lanes h ≡ Some lane → IsLane now.program lane
  pub there : (h ic s j : ℕ) → HasEdge now.records h ic s j → (lane : Lane) × (slice_get now.lanes h ≡ Some lane)
  pub on : (h ic s j : ℕ) (lane : Lane) → HasEdge now.records h ic s j → slice_get now.lanes h ≡ Some lane → IsOn lane ic
  pub closed : (h ic s j : ℕ) (lane : Lane) → HasEdge now.records h ic s j → slice_get now.lanes h ≡ Some lane
      → is_passed (Some lane) ic ≡ true → is_passed (slice_get now.lanes s) j ≡ true

-- the same of the state after a step, if there is one
abbrev pub SoundIf : Option (Item × Joining) → Type 0
SoundIf None = Unit {0}
SoundIf (Some x) = IsSound x.1
