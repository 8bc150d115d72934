-- The lowest ready hart, and what its step leaves to do.
use Rattle.step_debugger.proofs.Common.{◌≡◌, ℕ, zero, suc, ◌+◌, Bool, refl, sym, ap, ap₂, ◌∙◌, subst, arith, List, [], ◌∷◌, ◌++◌, length, slice_get, slice_set, Option, Some, None, Result, Ok, Err, Joining, choice, next_step, move, steps_left, entry_of, Trace, Trailed, with_entry, trace_step, go_by, go_past, stop_unless, GoesOnce, same_Some}
use Rattle.bn_base.specs.Programs.{Program}
use Rattle.bn_base.specs.declared.row.Row.{Row}
use Rattle.hart_replay.specs.declared.error.ReplayError.{ReplayError}
use Rattle.hart_replay.specs.Replay.{Outcome, Done, Refused}
use Rattle.joint_replay.specs.declared.kinds.Next.{Next}
use Rattle.joint_replay.specs.declared.kinds.Next.TheVariants as next
use Rattle.joint_replay.specs.declared.kinds.Stepped.{Stepped}
use Rattle.joint_replay.specs.Lanes.{Cursor, Lane, Item, Doing, Ending, row_given, cursors_steps, lane_step, lane_steps}
use Rattle.joint_replay.specs.Memory.{memory_after}
use Rattle.back_step.specs.Trails.{TrailSteps}
-- the lowest ready hart is ready, and there
pub use Rattle.joint_replay.proofs.Telling.{chosen_ready as lowest_is_ready, chosen_there as lowest_is_there}

-- ---- a step lowers what is left by one

same_pair : (x y : Item × Lane) → ◌≡◌ {A = Result (Item × Lane) ReplayError} (Ok x) (Ok y) → x ≡ y
same_pair x y e = cc

-- an interval's step, by what is left of it
abbrev step_by : Program → Cursor → List Cursor → List Row → Outcome → Result (Item × Lane) ReplayError
step_by i c cs rows o = elim rows [
  | r ∷ rs ↦ Ok (Doing c.state r, record { points = []; cursors = row_given i c r rs ∷ cs })
  | [] ↦ elim o [ Done ↦ Ok (Ending c.number c.mark, record { points = []; cursors = cs }) | Refused e ↦ Err e ]
]

cursor_fewer : (i : Program) (c : Cursor) (cs : List Cursor) (rows : List Row) (o : Outcome) (x : Item × Lane) → step_by i c cs rows o ≡ Ok x → lane_steps x.1 + 1 ≡ length rows + 1 + cursors_steps cs
cursor_fewer i c cs [] Done x e = subst (λ (y : Item × Lane). lane_steps y.1 + 1 ≡ 0 + 1 + cursors_steps cs) (same_pair (Ending c.number c.mark, record { points = []; cursors = cs }) x e) (omega arith)
cursor_fewer i c cs [] (Refused g) x e = absurd cc
cursor_fewer i c cs (r ∷ rs) o x e = subst (λ (y : Item × Lane). lane_steps y.1 + 1 ≡ length (r ∷ rs) + 1 + cursors_steps cs) (same_pair (Doing c.state r, record { points = []; cursors = row_given i c r rs ∷ cs }) x e) (omega arith)

lane_fewer : (i : Program) (points : List ℕ) (cursors : List Cursor) (x : Item × Lane) → lane_step i (record { points = points; cursors = cursors }) ≡ Some (Ok x) → lane_steps x.1 + 1 ≡ length points + cursors_steps cursors
lane_fewer i [] [] x e = absurd cc
lane_fewer i [] (c ∷ cs) x e =
    let low = cursor_fewer i c cs c.left.rows c.left.outcome x (same_Some (step_by i c cs c.left.rows c.left.outcome) (Ok x) e) in
    omega (arith, low)
lane_fewer i (p ∷ ps) cursors x e =
    subst (λ (y : Item × Lane). lane_steps y.1 + 1 ≡ length (p ∷ ps) + cursors_steps cursors) (same_pair _ x (same_Some _ (Ok x) e)) (omega arith)

set_fewer : (ls : List Lane) (h : ℕ) (lane new : Lane) → slice_get ls h ≡ Some lane → lane_steps new + 1 ≡ lane_steps lane → steps_left (slice_set ls h new) + 1 ≡ steps_left ls
set_fewer [] h lane new e low = absurd cc
set_fewer (l ∷ ls) zero lane new e low = let same : l ≡ lane = cc in let less : lane_steps new + 1 ≡ lane_steps l = subst (λ (y : Lane). lane_steps new + 1 ≡ lane_steps y) (sym same) low in omega (arith, less)
set_fewer (l ∷ ls) (suc h) lane new e low = let rest = set_fewer ls h lane new e low in omega (arith, rest)

same_set : (x y : Item × Joining) → ◌≡◌ {A = Option (Result (Item × Joining) ReplayError)} (Some (Ok x)) (Some (Ok y)) → x ≡ y
same_set x y e = cc

by_lane : (j : Joining) (h : ℕ) (lane : Lane) (o : Option (Result (Item × Lane) ReplayError)) (x : Item × Joining) → slice_get j.lanes h ≡ Some lane → lane_step j.program lane ≡ o → move j h o ≡ Some (Ok x)
    → steps_left x.1.lanes + 1 ≡ steps_left j.lanes
by_lane j h lane None x at e f = absurd cc
by_lane j h lane (Some (Err g)) x at e f = absurd cc
by_lane j h lane (Some (Ok y)) x at e f =
    subst (λ (z : Item × Joining). steps_left z.1.lanes + 1 ≡ steps_left j.lanes) (same_set (y.0, record j { lanes = slice_set j.lanes h y.1; memory = memory_after y.0 j.memory }) x f)
    (set_fewer j.lanes h lane y.1 at (lane_fewer j.program lane.points lane.cursors y e))

pub step_fewer : (j : Joining) (h : ℕ) (x : Item × Joining) → next_step j h ≡ Some (Ok x) → steps_left x.1.lanes + 1 ≡ steps_left j.lanes
step_fewer j h x e = by j.refused (slice_get j.lanes h) refl e
  where
    by : (r : Option ReplayError) (o : Option Lane) → slice_get j.lanes h ≡ o
        → elim r as (λ y. Option (Result (Item × Joining) ReplayError)) [ Some g ↦ Some (Err g) | None ↦ elim o as (λ y. Option (Result (Item × Joining) ReplayError)) [ None ↦ None | Some lane ↦ move j h (lane_step j.program lane) ] ] ≡ Some (Ok x)
        → steps_left x.1.lanes + 1 ≡ steps_left j.lanes
    by (Some g) o at f = absurd cc
    by None None at f = absurd cc
    by None (Some lane) at f = by_lane j h lane (lane_step j.program lane) x at refl f

-- ---- a step of a go

-- with its entry
same_trace : (x y : Item × Trace) → ◌≡◌ {A = Option (Result (Item × Trace) ReplayError)} (Some (Ok x)) (Some (Ok y)) → x ≡ y
same_trace x y e = cc

trace_fewer : (t : Trace) (h : ℕ) (y : Item × Trace) → trace_step t h ≡ Some (Ok y) → steps_left y.1.now.lanes + 1 ≡ steps_left t.now.lanes
trace_fewer t h y e = by (next_step t.now h) refl e
  where
    by : (o : Option (Result (Item × Joining) ReplayError)) → next_step t.now h ≡ o → elim o as (λ z. Option (Result (Item × Trace) ReplayError)) [ None ↦ None | Some r ↦ Some (with_entry t h r) ] ≡ Some (Ok y)
        → steps_left y.1.now.lanes + 1 ≡ steps_left t.now.lanes
    by None f e = absurd cc
    by (Some (Err g)) f e = absurd cc
    by (Some (Ok x)) f e =
        subst (λ (z : Item × Trace). steps_left z.1.now.lanes + 1 ≡ steps_left t.now.lanes) (same_trace (x.0, record { start = t.start; entries = t.entries ++ entry_of h x.0 ∷ []; now = x.1 }) y e) (step_fewer t.now h x f)

pub went : (first : Bool) (breaks : List ℕ) (old new : Trailed) (h : ℕ) (stepped : Stepped) (text : List ℕ) → choice old.trace.now ≡ next.Hart h → None ≡ stop_unless first breaks old.trace.now h → TrailSteps old h (Ok stepped) new
    → GoesOnce first breaks old.trace (Ok None) new.trace text text
went first breaks old new h stepped text c s t = (
  refl,
  trace_fewer old.trace h (t.0, new.trace) t.1,
  λ go.
      ap (λ (n : Next). go_by first breaks old.trace n go) c ∙ ap₂ (λ (at : Option (ℕ × ℕ)) (step : Option (Result (Item × Trace) ReplayError)). go_past old.trace h at step go) (sym s) t.1,
)
