-- Allowed orders. An order is a list of harts: the first time that a hart is named is for its first step, the second
-- time for its second, and so on. So each order is a merge of beginnings of the harts' lists of steps.
-- `Merges` says which merges these are without a joint replay.
use Rattle.std.specs.Prelude.{◌≡◌, ℕ, List, [], ◌∷◌, Option, Some, None, Ok, Err}
use Rattle.joint_replay.specs.Common.{Program, Record}
use Rattle.joint_replay.specs.declared.kinds.Readiness.TheVariants as is
use Rattle.joint_replay.specs.declared.kinds.Next.TheVariants.{AllDone}
use Rattle.joint_replay.specs.Lanes.{Item}
use Rattle.joint_replay.specs.Joining.{Joining, Walk, begun, longer, fresh, readiness, next_step, choice}

-- the step of a hart that is ready, and isn't refused
abbrev pub ready_step : Joining → ℕ → Option (Item × Joining)
ready_step j h = elim (readiness j h) [
  | is.Ready ↦ elim (next_step j h) [ None ↦ None | Some r ↦ elim r [ Err e ↦ None | Ok x ↦ Some x ] ]
  | is.Waits s ic ↦ None
  | is.Done ↦ None
]

-- the steps of harts one after another, if each is ready at its step
abbrev pub walk_on : Walk → List ℕ → Option Walk
walk_on w [] = Some w
walk_on w (h ∷ hs) = elim (ready_step w.now h) [ None ↦ None | Some x ↦ walk_on (longer w h x) hs ]

-- a fresh joint replay that takes the steps of an order
abbrev pub walk : Program → ℕ → List Record → List ℕ → Option Walk
walk i harts records order = walk_on (begun (fresh i harts records)) order

-- the order is the beginning of an allowed order, and this is its walk
pub record IsBegun (i : Program) (harts : ℕ) (records : List Record) (order : List ℕ) (w : Walk) : Type 0 where
  pub allowed : walk i harts records order ≡ Some w

-- the order is an allowed order: no hart has a step left
pub record IsAllowed (i : Program) (harts : ℕ) (records : List Record) (order : List ℕ) (w : Walk) : Type 0 where
  pub begun : IsBegun i harts records order w
  pub whole : choice w.now ≡ AllDone
