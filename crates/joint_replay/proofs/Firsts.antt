-- The first step of a run, and the end of a run that takes none.
use Rattle.joint_replay.proofs.Common.{◌≡◌, ℕ, zero, suc, refl, ap, ◌∙◌, subst, List, [], ◌∷◌, ◌++◌, length, slice_get, slice_set, Option, Some, None, Result, Ok, Err, ReplayError, Hart, Lane, Item, lane_step, memory_after, Joining, Taken, Ran, ran, choice, move, next_step, run_for, run_all}
use Rattle.joint_replay.specs.Firsts.{IsFirstStep, RunsByStep}
use Rattle.joint_replay.proofs.Onward.{taken_by, step_fewer, step_taken, step_refused, all_done, none_ready, is_onward, first_of, runs_end}
use Rattle.joint_replay.proofs.Telling.{chosen_there, chosen_ready}

set_length : (ls : List Lane) (h : ℕ) (new : Lane) → length (slice_set ls h new) ≡ length ls
set_length [] h new = refl
set_length (l ∷ ls) zero new = refl
set_length (l ∷ ls) (suc h) new = ap suc (set_length ls h new)

-- as many harts, and the same refusal
record Keeps (j next : Joining) : Type 0 where
  pub harts : length next.lanes ≡ length j.lanes
  pub refused : next.refused ≡ j.refused

same_set : (x y : Item × Joining) → ◌≡◌ {A = Option (Result (Item × Joining) ReplayError)} (Some (Ok x)) (Some (Ok y)) → x ≡ y
same_set x y e = cc

by_lane : (j : Joining) (h : ℕ) (o : Option (Result (Item × Lane) ReplayError)) (x : Item × Joining) → move j h o ≡ Some (Ok x) → Keeps j x.1
by_lane j h None x f = absurd cc
by_lane j h (Some (Err g)) x f = absurd cc
by_lane j h (Some (Ok y)) x f =
    subst (λ (z : Item × Joining). Keeps j z.1) (same_set (y.0, record j { lanes = slice_set j.lanes h y.1; memory = memory_after y.0 j.memory }) x f) (record { harts = set_length j.lanes h y.1; refused = refl })

keeps : (j : Joining) (h : ℕ) (x : Item × Joining) → next_step j h ≡ Some (Ok x) → Keeps j x.1
keeps j h x e = by j.refused (slice_get j.lanes h) e
  where
    by : (r : Option ReplayError) (o : Option Lane)
        → elim r as (λ y. Option (Result (Item × Joining) ReplayError)) [ Some g ↦ Some (Err g) | None ↦ elim o as (λ y. Option (Result (Item × Joining) ReplayError)) [ None ↦ None | Some lane ↦ move j h (lane_step j.program lane) ] ] ≡ Some (Ok x)
        → Keeps j x.1
    by (Some g) o f = absurd cc
    by None None f = absurd cc
    by None (Some lane) f = by_lane j h (lane_step j.program lane) x f

step_is_first : (j : Joining) (h : ℕ) (x : Item × Joining) → j.refused ≡ None → choice j ≡ Hart h → next_step j h ≡ Some (Ok x) → IsFirstStep j h x
step_is_first j h x none c e =
    let o = is_onward j (taken_by h x.0) x.1 (step_taken j h x none c e) in
    let whole : run_all j ≡ ran (record { taken = (run_all x.1).walk.taken ++ taken_by h x.0 ∷ []; now = (run_all x.1).walk.now }) (run_all x.1).stopped =
    first_of j o.0
    ∙ ap (λ (t : Taken). ran (record { taken = (run_all o.0.next).walk.taken ++ t ∷ []; now = (run_all o.0.next).walk.now }) (run_all o.0.next).stopped) o.1
    ∙ ap (λ (n : Joining). ran (record { taken = (run_all n).walk.taken ++ taken_by h x.0 ∷ []; now = (run_all n).walk.now }) (run_all n).stopped) o.2 in
    let k = keeps j h x e in
    record {
      taken = ap (λ (r : Ran). r.walk.taken) whole;
      now = ap (λ (r : Ran). r.walk.now) whole;
      stopped = ap (λ (r : Ran). r.stopped) whole;
      fewer = step_fewer j h x e;
      harts = k.harts;
      refused = k.refused;
    }

pub runs_by_step : RunsByStep
runs_by_step = record {
  there = chosen_there;
  ready = chosen_ready;
  first = step_is_first;
  refused = λ j h e none c f. runs_end j (record j { refused = Some e }) _ (step_refused j h e none c f);
  done = λ j none c. runs_end j j None (all_done j none c [] (λ v. run_for 0 v));
  stuck = λ j none c. runs_end j j _ (none_ready j none c [] (λ v. run_for 0 v));
}
