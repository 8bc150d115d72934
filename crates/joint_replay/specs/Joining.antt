-- The joint replay: all harts together, one step after another. It is defined for every log that can be read, forged ones too.
use Rattle.std.specs.Prelude.{ℕ, zero, suc, ◌+◌, nat_lt, Bool, true, false, List, [], ◌∷◌, slice_get, slice_set, Option, Some, None, Result, Ok, Err}
use Rattle.joint_replay.specs.Common.{Program, Record, ReplayError, NoInterval, LoadMissing, ScMissing, RecordsLeft, EndDiffers}
use Rattle.joint_replay.specs.declared.error.JointError.{JointError}
use Rattle.joint_replay.specs.declared.error.JointError.TheVariants.{Replay, Stuck}
use Rattle.joint_replay.specs.declared.error.JointError.TheVariants as why
use Rattle.hart_replay.specs.declared.error.ReplayError.TheVariants as replay
use Rattle.joint_replay.specs.declared.kinds.Coming.{Coming}
use Rattle.joint_replay.specs.declared.kinds.Readiness.{Readiness}
use Rattle.joint_replay.specs.declared.kinds.Readiness.TheVariants as is
use Rattle.joint_replay.specs.declared.kinds.Next.{Next}
use Rattle.joint_replay.specs.declared.kinds.Next.TheVariants.{Hart, AllDone, NoneReady}
use Rattle.joint_replay.specs.Points.{sources_into}
use Rattle.joint_replay.specs.Lanes.{Lane, Item, lane_of, coming_of, count_of, point_of, lane_step, lane_steps}
use Rattle.joint_replay.specs.Memory.{memory_after}

-- the state of a joint replay: its program, the log's records, the harts by number, the known words of the joint memory by
-- ascending address, and the refusal that it repeats, once there was one
pub record Joining : Type 0 where
  pub program : Program
  pub records : List Record
  pub lanes : List Lane
  pub memory : List (ℕ × ℕ)
  pub refused : Option ReplayError

-- so many harts from hart h on, before their first steps
abbrev pub lanes_from : Program → List Record → ℕ → ℕ → List Lane
lanes_from i records h zero = []
lanes_from i records h (suc n) = lane_of i records h ∷ lanes_from i records (h + 1) n

-- the joint replay of so many harts before its first step
abbrev pub fresh : Program → ℕ → List Record → Joining
fresh i harts records = record { program = i; records = records; lanes = lanes_from i records 0 harts; memory = []; refused = None }

-- ---- which harts are ready

-- instruction j of a hart is passed: the hart is done, or what comes next of it has a greater count
abbrev pub is_passed : Option Lane → ℕ → Bool
is_passed None j = true
is_passed (Some lane) j = elim (coming_of lane) [ None ↦ true | Some c ↦ nat_lt j (count_of c) ]

-- the first of some points that isn't passed
abbrev pub first_waited : List Lane → List (ℕ × ℕ) → Option (ℕ × ℕ)
first_waited lanes [] = None
first_waited lanes (p ∷ ps) = elim (is_passed (slice_get lanes p.0) p.1) [ true ↦ first_waited lanes ps | false ↦ Some p ]

-- ready, if it waits for nothing
abbrev pub waits_for : Option (ℕ × ℕ) → Readiness
waits_for None = is.Ready
waits_for (Some p) = is.Waits p.0 p.1

-- a step at a point waits for the sources of all kept Edges into it; every other step is ready
abbrev pub readiness_of : List Record → List Lane → ℕ → Lane → Readiness
readiness_of records lanes h lane = elim (coming_of lane) [
  | None ↦ is.Done
  | Some c ↦ elim (point_of lane) [ None ↦ is.Ready | Some ic ↦ waits_for (first_waited lanes (sources_into records h ic)) ]
]

-- whether a hart is done, ready, or waits: the first source, in log order, of an Edge into its point that isn't passed
abbrev pub readiness : Joining → ℕ → Readiness
readiness j h = elim (slice_get j.lanes h) [ None ↦ is.Done | Some lane ↦ readiness_of j.records j.lanes h lane ]

-- what the next step of a hart is
abbrev pub coming : Joining → ℕ → Option Coming
coming j h = elim (slice_get j.lanes h) [ None ↦ None | Some lane ↦ coming_of lane ]

-- the first ready one of the harts from h on; if there is none, whether one of them, or one before, waits
abbrev pub choice_from : List Record → List Lane → ℕ → List Lane → Bool → Next
choice_from records lanes h [] true = NoneReady
choice_from records lanes h [] false = AllDone
choice_from records lanes h (l ∷ ls) waiting = elim (readiness_of records lanes h l) [
  | is.Ready ↦ Hart h
  | is.Waits s ic ↦ choice_from records lanes (h + 1) ls true
  | is.Done ↦ choice_from records lanes (h + 1) ls waiting
]

-- the lowest ready hart
abbrev pub choice : Joining → Next
choice j = choice_from j.records j.lanes 0 j.lanes false

-- ---- a step

-- the state after a step of hart h, or its refusal
abbrev pub with_step : Joining → ℕ → Result (Item × Lane) ReplayError → Result (Item × Joining) ReplayError
with_step j h (Err e) = Err e
with_step j h (Ok x) = Ok (x.0, record j { lanes = slice_set j.lanes h x.1; memory = memory_after x.0 j.memory })

-- the same, if the hart has a step
abbrev pub move : Joining → ℕ → Option (Result (Item × Lane) ReplayError) → Option (Result (Item × Joining) ReplayError)
move j h None = None
move j h (Some r) = Some (with_step j h r)

-- the next step of a hart, if it has one; after a refusal that refusal
abbrev pub next_step : Joining → ℕ → Option (Result (Item × Joining) ReplayError)
next_step j h = elim j.refused [
  | Some e ↦ Some (Err e)
  | None ↦ elim (slice_get j.lanes h) [ None ↦ None | Some lane ↦ move j h (lane_step j.program lane) ]
]

-- ---- the lowest ready hart first

-- a step that was taken: the hart, and what it did
pub record Taken : Type 0 where
  pub hart : ℕ
  pub item : Item

-- steps, latest first, and the joint replay after them
pub record Walk : Type 0 where
  pub taken : List Taken
  pub now : Joining

-- a walk of no steps
abbrev pub begun : Joining → Walk
begun j = record { taken = []; now = j }

-- a walk with one step more
abbrev pub longer : Walk → ℕ → Item × Joining → Walk
longer w h x = record { taken = record { hart = h; item = x.0 } ∷ w.taken; now = x.1 }

-- the harts that aren't done, each with its next count
abbrev pub positions_from : ℕ → List Lane → List (ℕ × ℕ)
positions_from h [] = []
positions_from h (l ∷ ls) = elim (coming_of l) [ None ↦ positions_from (h + 1) ls | Some c ↦ (h, count_of c) ∷ positions_from (h + 1) ls ]

-- how many steps all harts have left at most
abbrev pub steps_left : List Lane → ℕ
steps_left [] = 0
steps_left (l ∷ ls) = lane_steps l + steps_left ls

-- how a refusal of a replay is told; out of memory is told by itself
abbrev pub error_of : ReplayError → JointError
error_of (NoInterval h c) = Replay (NoInterval h c)
error_of (LoadMissing h ic a) = Replay (LoadMissing h ic a)
error_of (ScMissing h ic) = Replay (ScMissing h ic)
error_of (RecordsLeft h n) = Replay (RecordsLeft h n)
error_of (EndDiffers h said found) = Replay (EndDiffers h said found)
error_of replay.OutOfMemory = why.OutOfMemory

-- the steps of a run, and why it stopped, if not with all harts done
pub record Ran : Type 0 where
  pub walk : Walk
  pub stopped : Option JointError

-- a run that stopped so
abbrev pub ran : Walk → Option JointError → Ran
ran w stopped = record { walk = w; stopped = stopped }

-- the lowest ready hart takes a step, and the run continues from there; it stops if all are done, none is ready, or a
-- replay is or was refused
abbrev pub run_on : Walk → (Walk → Ran) → Ran
run_on w go = elim w.now.refused [
  | Some e ↦ ran w (Some (error_of e))
  | None ↦ elim (choice w.now) [
    | AllDone ↦ ran w None
    | NoneReady ↦ ran w (Some (Stuck (positions_from 0 w.now.lanes)))
    | Hart h ↦ elim (next_step w.now h) [
      | None ↦ ran w None
      | Some r ↦ elim r [ Err e ↦ ran (record w { now = record w.now { refused = Some e } }) (Some (error_of e)) | Ok x ↦ go (longer w h x) ]
    ]
  ]
]

-- at most n steps
abbrev pub run_for : ℕ → Walk → Ran
run_for zero w = ran w None
run_for (suc n) w = run_on w (λ v. run_for n v)

-- steps, until all harts are done, none is ready, or one is refused
abbrev pub run_all : Joining → Ran
run_all j = run_for (steps_left j.lanes + 1) (begun j)
