-- What a trail keeps, and what its calls do.
use Rattle.std.specs.Prelude.{◌≡◌, ◌⊎◌, ℕ, ◌+◌, ◌*◌, ◌/◌, ◌%◌, ◌<◌, Bool, true, false, List, [], ◌∷◌, ◌++◌, length, take, map, slice_get, Some, None, Result, Ok, Err}
use Rattle.hart_replay.specs.declared.error.ReplayError.{ReplayError}
use Rattle.hart_replay.specs.declared.error.ReplayError.TheVariants as replay
use Rattle.joint_replay.specs.declared.error.JointError.{JointError}
use Rattle.joint_replay.specs.declared.error.JointError.TheVariants as why
use Rattle.joint_replay.specs.declared.kinds.Stepped.{Stepped}
use Rattle.joint_replay.specs.Lanes.{Item}
use Rattle.joint_replay.specs.Joining.{Joining, error_of}
use Rattle.joint_replay.specs.Orders.{ready_step}
use Rattle.joint_replay.specs.Calls.{bare, stepped_of, RanOut}
use Rattle.back_step.specs.declared.entry.Entry.{Entry}
use Rattle.back_step.specs.Traces.{entry_of, Trailed, trace_step, refusing}

-- ---- steps that were taken

-- a hart is ready, and its step isn't refused
abbrev pub CanStep : Joining → ℕ → Type 0
CanStep j h = (x : Item × Joining) × (ready_step j h ≡ Some x)

-- the joint replay took that step
abbrev pub Took : Joining → ℕ → Joining → Type 0
Took j h k = (item : Item) × (ready_step j h ≡ Some (item, k))

-- steps with these entries lead from one joint replay to another
abbrev pub LeadsBy : Joining → List Entry → Joining → Type 0
LeadsBy j [] k = k ≡ j
LeadsBy j (e ∷ es) k = (x : Item × Joining) × (ready_step j e.hart ≡ Some x) × (e ≡ entry_of e.hart x.0) × LeadsBy x.1 es k

-- steps with these entries can be taken
abbrev pub CanTake : Joining → List Entry → Type 0
CanTake j es = (k : Joining) × LeadsBy j es k

-- a joint replay has that state, but it may repeat a refusal, and then nothing is known of what is left of its replays
pub record IsBackAt (there now : Joining) : Type 0 where
  pub program : now.program ≡ there.program
  pub records : now.records ≡ there.records
  pub lanes : map bare now.lanes ≡ map bare there.lanes
  pub memory : now.memory ≡ there.memory
  pub whole : now.refused ≡ None → now ≡ there

-- ---- copies

-- the copies, with one more if it is time for it
abbrev pub with_copy : Bool → Joining → List Joining → List Joining
with_copy true j copies = copies ++ j ∷ []
with_copy false j copies = copies

-- how many copies there are at a position: one at each multiple up to it, or that of the position itself is still to be made
abbrev pub HasCopies : ℕ → ℕ → ℕ → Type 0
HasCopies every position copies = (copies ≡ position / every + 1) ⊎ ((copies ≡ position / every) × (position % every ≡ 0))

-- a trail with a copy at each multiple of `every`
abbrev pub trailed : ℕ → Joining → List Entry → Joining → Trailed
trailed every start entries now = record { every = every; trace = record { start = start; entries = entries; now = now } }

-- what a trail has by its type: steps of ready harts lead from its start to its present state, and to each copy. There is a
-- copy at each multiple of `every` up to its position; the copy of the position itself may be still to be made
pub record IsTrail (every : ℕ) (start : Joining) (entries : List Entry) (now : Joining) (copies : List Joining) : Type 0 where
  pub some : 0 < every
  pub calm : start.refused ≡ None
  pub there : Joining
  pub led : LeadsBy start entries there
  pub stands : IsBackAt there now
  pub copied : (i : ℕ) (c : Joining) → slice_get copies i ≡ Some c → LeadsBy start (take (i * every) entries) c
  pub many : HasCopies every (length entries) (length copies)
  -- if a refusal is repeated, a step was tried
  pub tried : (now.refused ≡ None) ⊎ (length copies ≡ length entries / every + 1)

-- ---- a step

-- the joint replay refuses it
pub record IsRefused (old : Trailed) (h : ℕ) (e : JointError) (new : Trailed) : Type 0 where
  pub refusal : ReplayError
  pub there : trace_step old.trace h ≡ Some (Err refusal)
  pub error_is : e ≡ error_of refusal
  pub repeated : new ≡ record { every = old.every; trace = refusing old.trace refusal }

-- the joint replay finds no memory for it, and it wasn't to be refused
pub record IsStarved (old : Trailed) (h : ℕ) (new : Trailed) : Type 0 where
  pub calm : old.trace.now.refused ≡ None
  pub unrefused : (r : ReplayError) → trace_step old.trace h ≡ Some (Err r) → r ≡ replay.OutOfMemory
  pub ran_out : RanOut old.trace.now new.trace.now
  pub same : new ≡ trailed old.every old.trace.start old.trace.entries new.trace.now

-- a step does the hart's next item, and has its entry; or it is refused as that is; or memory runs out
abbrev pub TrailSteps : Trailed → ℕ → Result Stepped JointError → Trailed → Type 0
TrailSteps old h (Ok stepped) new = (item : Item) × (trace_step old.trace h ≡ Some (Ok (item, new.trace))) × (stepped ≡ stepped_of h item) × (new.every ≡ old.every)
TrailSteps old h (Err e) new = IsRefused old h e new ⊎ ((e ≡ why.OutOfMemory) × ((new ≡ old) ⊎ IsStarved old h new))

-- a trail continued from another by some steps, or by none
pub record GoesOnFrom (old new : Trailed) : Type 0 where
  pub every : new.every ≡ old.every
  pub start : new.trace.start ≡ old.trace.start
  pub steps : List Entry
  pub entries : new.trace.entries ≡ old.trace.entries ++ steps
