-- What the calls of a joint replay do.
use Rattle.std.specs.Prelude.{◌≡◌, ◌⊎◌, ℕ, List, map, slice_get, Option, Some, None, Result, Ok, Err}
use Rattle.joint_replay.specs.Common.{HartState, ReplayError, Done, outcome_only}
use Rattle.hart_replay.specs.declared.error.ReplayError.TheVariants as replay
use Rattle.joint_replay.specs.declared.error.JointError.{JointError}
use Rattle.joint_replay.specs.declared.error.JointError.TheVariants as why
use Rattle.joint_replay.specs.declared.kinds.Stepped.{Stepped}
use Rattle.joint_replay.specs.declared.kinds.Stepped.TheVariants.{Passed, Did, Ended}
use Rattle.joint_replay.specs.Lanes.{Cursor, Lane, Item, Passing, Doing, Ending, state_of}
use Rattle.joint_replay.specs.Joining.{Joining, Walk, error_of, next_step}
use Rattle.joint_replay.specs.Orders.{IsBegun}

-- what a caller is told of a step
abbrev pub stepped_of : ℕ → Item → Stepped
stepped_of h (Passing ic) = Passed h ic
stepped_of h (Doing before row) = Did row
stepped_of h (Ending n m) = Ended h n m

-- the state of a hart, if an interval of it is under way
abbrev pub state_at : Joining → ℕ → Option HartState
state_at j h = elim (slice_get j.lanes h) [ None ↦ None | Some lane ↦ state_of lane ]

-- ---- out of memory

-- a hart, whatever is left of its replays
abbrev pub bare_cursor : Cursor → Cursor
bare_cursor c = record c { left = outcome_only Done }

-- the same of a hart's intervals
abbrev pub bare : Lane → Lane
bare lane = record lane { cursors = map bare_cursor lane.cursors }

-- memory ran out: nothing changes, but that the refusal is repeated, and a replay that found no memory does the same
pub record RanOut (old new : Joining) : Type 0 where
  pub program : new.program ≡ old.program
  pub records : new.records ≡ old.records
  pub lanes : map bare new.lanes ≡ map bare old.lanes
  pub memory : new.memory ≡ old.memory
  pub refused : new.refused ≡ Some replay.OutOfMemory

-- an allowed order led to the state of a joint replay; a refusal changes nothing of what it shows
pub record IsReached (harts : ℕ) (j : Joining) : Type 0 where
  pub order : List ℕ
  pub walk : Walk
  pub begun : IsBegun j.program harts j.records order walk
  pub lanes : map bare walk.now.lanes ≡ map bare j.lanes
  pub memory : walk.now.memory ≡ j.memory
  pub whole : j.refused ≡ None → walk.now ≡ j

-- ---- steps

-- the replay of the hart's interval is refused there
pub record IsRefused (old : Joining) (h : ℕ) (e : JointError) (new : Joining) : Type 0 where
  pub refusal : ReplayError
  pub there : next_step old h ≡ Some (Err refusal)
  pub error_is : e ≡ error_of refusal
  pub repeated : new ≡ record old { refused = Some refusal }

-- the hart's next step isn't refused, unless it is out of memory
abbrev pub StepUnrefused : Joining → ℕ → Type 0
StepUnrefused j h = (r : ReplayError) → next_step j h ≡ Some (Err r) → r ≡ replay.OutOfMemory

-- a step does the hart's next item, or is refused as that is. Or memory runs out: not after a refusal, and not in place of one
abbrev pub Steps : Joining → ℕ → Result Stepped JointError → Joining → Type 0
Steps old h (Ok stepped) new = (item : Item) × (next_step old h ≡ Some (Ok (item, new))) × (stepped ≡ stepped_of h item)
Steps old h (Err e) new =
    IsRefused old h e new ⊎ ((e ≡ why.OutOfMemory) × (old.refused ≡ None) × RanOut old new × StepUnrefused old h)
