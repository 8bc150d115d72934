-- The first step of a run, and the end of a run that takes none.
use Rattle.std.specs.Prelude.{◌≡◌, ◌<◌, ℕ, [], ◌∷◌, ◌++◌, length, Some, None, Ok, Err}
use Rattle.hart_replay.specs.declared.error.ReplayError.{ReplayError}
use Rattle.joint_replay.specs.declared.error.JointError.TheVariants.{Stuck}
use Rattle.joint_replay.specs.declared.kinds.Readiness.TheVariants.{Ready}
use Rattle.joint_replay.specs.declared.kinds.Next.TheVariants.{Hart, AllDone, NoneReady}
use Rattle.joint_replay.specs.Lanes.{Item}
use Rattle.joint_replay.specs.Joining.{Joining, begun, ran, choice, readiness, next_step, error_of, positions_from, steps_left, run_all}

-- a run is its first step, which hart h takes, and the run after it
pub record IsFirstStep (j : Joining) (h : ℕ) (x : Item × Joining) : Type 0 where
  pub taken : (run_all j).walk.taken ≡ (run_all x.1).walk.taken ++ record { hart = h; item = x.0 } ∷ []
  pub now : (run_all j).walk.now ≡ (run_all x.1).walk.now
  pub stopped : (run_all j).stopped ≡ (run_all x.1).stopped
  pub fewer : steps_left x.1.lanes < steps_left j.lanes
  pub harts : length x.1.lanes ≡ length j.lanes
  pub refused : x.1.refused ≡ j.refused

-- the lowest ready hart is one of them, and is ready; if its step is done, the run continues after it; if it is refused, none is
-- ready or all are done, the run ends
pub record RunsByStep : Type 0 where
  pub there : (j : Joining) (h : ℕ) → choice j ≡ Hart h → h < length j.lanes
  pub ready : (j : Joining) (h : ℕ) → choice j ≡ Hart h → readiness j h ≡ Ready
  pub first : (j : Joining) (h : ℕ) (x : Item × Joining) → j.refused ≡ None → choice j ≡ Hart h → next_step j h ≡ Some (Ok x) → IsFirstStep j h x
  pub refused : (j : Joining) (h : ℕ) (e : ReplayError) → j.refused ≡ None → choice j ≡ Hart h → next_step j h ≡ Some (Err e)
      → run_all j ≡ ran (begun (record j { refused = Some e })) (Some (error_of e))
  pub done : (j : Joining) → j.refused ≡ None → choice j ≡ AllDone → run_all j ≡ ran (begun j) None
  pub stuck : (j : Joining) → j.refused ≡ None → choice j ≡ NoneReady → run_all j ≡ ran (begun j) (Some (Stuck (positions_from 0 j.lanes)))
