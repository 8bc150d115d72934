-- Runs of a joint replay, step by step, with their text.
use Rattle.std.specs.Prelude.{◌≡◌, ◌⊎◌, ◌≤◌, ◌<◌, ◌+◌, ℕ, Bool, true, false, ◌++◌, List, [], ◌∷◌, Option, Some, None, Result, Ok, Err}
use Rattle.hart_replay.specs.declared.error.ReplayError.{ReplayError}
use Rattle.hart_replay.specs.declared.error.ReplayError.TheVariants as replay
use Rattle.joint_replay.specs.declared.error.JointError.{JointError}
use Rattle.joint_replay.specs.declared.error.JointError.TheVariants as why
use Rattle.joint_replay.specs.Joining.{Joining, Taken, Ran, begun, ran, positions_from, steps_left, error_of, run_for, run_all}
use Rattle.joint_replay.specs.Calls.{RanOut}
use Rattle.joint_replay.specs.Texts.{item_text, steps_text}

-- ---- one step

-- a run of one step
abbrev pub one_step : Joining → Ran
one_step j = run_for 1 (begun j)

-- a run of one step that took this one
abbrev pub IsStep : Joining → Taken → Joining → Type 0
IsStep old t new = one_step old ≡ ran (record { taken = t ∷ []; now = new }) None

-- the step is done, and its line is added
pub record Advanced (old new : Joining) (out_old out_new : List ℕ) : Type 0 where
  pub taken : Taken
  pub step : IsStep old taken new
  pub fewer : steps_left new.lanes < steps_left old.lanes
  pub text : out_new ≡ out_old ++ item_text taken.hart taken.item

-- the first step of a run isn't refused, unless it is out of memory
abbrev pub RunUnrefused : Joining → Type 0
RunUnrefused j = (r : ReplayError) → (one_step j).stopped ≡ Some (error_of r) → r ≡ replay.OutOfMemory

-- memory ran out for the step, or for its line once it was done
abbrev pub IsStarved : Joining → Joining → Type 0
IsStarved old new = RanOut old new ⊎ ((t : Taken) × (next : Joining) × IsStep old t next × RanOut next new)

-- a step is done and told, or none is left, or the run stops there; or memory ran out, not in place of a refusal
abbrev pub Advances : Joining → Result Bool JointError → Joining → List ℕ → List ℕ → Type 0
Advances old (Ok true) new out_old out_new = Advanced old new out_old out_new
Advances old (Ok false) new out_old out_new = (one_step old ≡ ran (begun new) None) × (out_new ≡ out_old)
Advances old (Err e) new out_old out_new = (out_new ≡ out_old)
    × ((one_step old ≡ ran (begun new) (Some e))
    ⊎ ((e ≡ why.OutOfMemory) × (old.refused ≡ None) × IsStarved old new × RunUnrefused old))

-- the harts that aren't done with their next counts, or there is no memory for that
abbrev pub IsStuck : Joining → JointError → Joining → Type 0
IsStuck old e new = ((e ≡ why.Stuck (positions_from 0 old.lanes)) × (new ≡ old)) ⊎ ((e ≡ why.OutOfMemory) × RanOut old new)

-- ---- all steps

-- the error that a run ended with, if it did
abbrev pub stopped_by : Result (Unit {0}) JointError → Option JointError
stopped_by (Ok u) = None
stopped_by (Err e) = Some e

-- a run adds the text of all its steps, and ends as they do
pub record RanToEnd (old : Joining) (result : Result (Unit {0}) JointError) (new : Joining) (out_old out_new : List ℕ) : Type 0 where
  pub ends : (run_all old).stopped ≡ stopped_by result
  pub now : (run_all old).walk.now ≡ new
  pub text : out_new ≡ out_old ++ steps_text (run_all old).walk.taken

-- or memory runs out after some of them, of which the last may be untold; the first untold step wasn't to be refused
pub record FoundNoMemory (old new : Joining) (out_old out_new : List ℕ) : Type 0 where
  pub steps : ℕ
  pub told : ℕ
  pub last : (told ≤ steps) × (steps ≤ told + 1)
  pub unrefused : RunUnrefused (run_for told (begun old)).walk.now
  pub ran_out : RanOut (run_for steps (begun old)).walk.now new
  pub text : out_new ≡ out_old ++ steps_text (run_for told (begun old)).walk.taken

-- all steps are done and their lines are sent, or the run ends early as it has to, or it runs out of memory
abbrev pub Runs : Joining → Result (Unit {0}) JointError → Joining → List ℕ → List ℕ → Type 0
Runs old result new out_old out_new = RanToEnd old result new out_old out_new ⊎ ((result ≡ Err why.OutOfMemory) × FoundNoMemory old new out_old out_new)

-- ---- a run is its first step, and the run after it

-- a run is its first step and the run from there on: in its text, its last state, and why it ends
pub record IsFirstTaken (j : Joining) (t : Taken) (next : Joining) : Type 0 where
  pub text : steps_text (run_all j).walk.taken ≡ item_text t.hart t.item ++ steps_text (run_all next).walk.taken
  pub now : (run_all j).walk.now ≡ (run_all next).walk.now
  pub stopped : (run_all j).stopped ≡ (run_all next).stopped

-- each run that has a step is its first step and the run from there on
abbrev pub RunsGoOn : Type 0
RunsGoOn = (j : Joining) (t : Taken) (next : Joining) → IsStep j t next → IsFirstTaken j t next

-- if no step is taken the run ends
abbrev pub RunsEnd : Type 0
RunsEnd = (j next : Joining) (stopped : Option JointError) → one_step j ≡ ran (begun next) stopped → run_all j ≡ ran (begun next) stopped
