-- A joint replay, step by step, with its points.
use Rattle.race_report.proofs.Common.{◌≡◌, ℕ, ◌+◌, ◌<◌, ◌≤◌, refl, sym, ap, ◌∙◌, subst, arith, List, [], ◌∷◌, ◌++◌, append_assoc, length, None, Result, Ok, Err, append-nil, Program, Hart, AllDone, state_of, Joining, Taken, Ran, fresh, begun, ran, choice, steps_left, run_all, IsFirstStep, RunsByStep, Gathered, Accessing, points_of, IsGathered, IsState, Record, Race, races_of, total, IsReport, Stops, Advances, HasState, IsOnTheWay, Gathers, GathersRest, GathersInto}
use Rattle.hart_replay.specs.declared.error.ReplayError.TheVariants as replay
use Rattle.joint_replay.specs.declared.error.JointError.TheVariants as why
use Rattle.race_report.specs.declared.error.RaceError.{RaceError}
use Rattle.race_report.specs.declared.error.RaceError.TheVariants.{Joint, TooMany, OutOfMemory}
use Rattle.race_report.proofs.Counting.{state_of as whole_state, total_is}
use Rattle.race_report.proofs.Counted.{lanes_long}

-- ---- all steps

pub way_first : (harts most : ℕ) (first : Joining) (g : Gathered) → first.refused ≡ None → length first.lanes ≡ harts → IsState harts most [] g → IsOnTheWay harts most first first g
way_first harts most first g none count state = record { done = []; taken = sym (append-nil (run_all first).walk.taken); stopped = refl; none = none; count = count; state = state }

pub way_next : RunsByStep → (harts most h : ℕ) (first now new : Joining) (g next : Gathered) (u : Unit {0}) → choice now ≡ Hart h → IsOnTheWay harts most first now g → Advances h most now g (Ok u) new next → IsOnTheWay harts most first new next
way_next law harts most h first now new g next u lowest w a =
    let f : IsFirstStep now h (a.0, new) = law.first now h (a.0, new) w.none lowest a.1 in
    let t : Taken = record { hart = h; item = a.0 } in
    let low : h < harts = subst (λ (k : ℕ). h < k) w.count (law.there now h lowest) in
    record {
      done = t ∷ w.done;
      taken = w.taken ∙ ap (λ (ts : List Taken). ts ++ w.done) f.taken ∙ append_assoc (run_all new).walk.taken (t ∷ []) w.done;
      stopped = w.stopped ∙ f.stopped;
      none = f.refused ∙ w.none;
      count = f.harts ∙ w.count;
      state = a.2 harts (points_of w.done) low w.state;
    }

pub way_has : RunsByStep → (harts most h : ℕ) (first now : Joining) (g : Gathered) → choice now ≡ Hart h → IsOnTheWay harts most first now g → HasState h most g
way_has law harts most h first now g lowest w = (harts, points_of w.done, subst (λ (k : ℕ). h < k) w.count (law.there now h lowest), w.state)

pub way_fewer : RunsByStep → (harts most h : ℕ) (first now new : Joining) (g next : Gathered) (u : Unit {0}) → choice now ≡ Hart h → IsOnTheWay harts most first now g → Advances h most now g (Ok u) new next → steps_left new.lanes < steps_left now.lanes
way_fewer law harts most h first now new g next u lowest w a = (law.first now h (a.0, new) w.none lowest a.1).fewer

pub way_done : RunsByStep → (harts most : ℕ) (first now : Joining) (g : Gathered) → choice now ≡ AllDone → IsOnTheWay harts most first now g → Gathers harts most (run_all first) (Ok g)
way_done law harts most first now g done w =
    let end : run_all now ≡ ran (begun now) None = law.done now w.none done in
    (w.stopped ∙ ap (λ (x : Ran). x.stopped) end, subst (λ (ts : List Taken). IsState harts most (points_of ts) g) (sym (w.taken ∙ ap (λ (x : Ran). x.walk.taken ++ w.done) end)) w.state)

pub way_stopped : (harts most : ℕ) (first now : Joining) (g : Gathered) (e : RaceError) → IsOnTheWay harts most first now g → Stops now e → Gathers harts most (run_all first) (Err e)
way_stopped harts most first now g (Joint e) w s = (w.stopped ∙ s.0, s.1)
way_stopped harts most first now g (TooMany max) w s = s
way_stopped harts most first now g OutOfMemory w s = tt

pub way_fresh : (i : Program) (harts most : ℕ) (records : List Record) (now : Joining) (g : Gathered) → now ≡ fresh i harts records → IsGathered harts [] g → IsOnTheWay harts most (fresh i harts records) now g
way_fresh i harts most records now g e state = subst (λ (j : Joining). IsOnTheWay harts most (fresh i harts records) j g) (sym e) (way_first harts most (fresh i harts records) g refl (lanes_long i records 0 harts) (whole_state harts most [] g state))

pub reported : (harts most count : ℕ) (r : Ran) (g : Gathered) (races items : List Race) → Gathers harts most r (Ok g) → count ≡ total g.found.lists.items → count ≤ most → races ≡ items
    → ((hs : ℕ) (run : List Accessing) → IsGathered hs run g → items ≡ races_of hs run) → IsReport harts most r (Ok races)
reported harts most count r g races items s e low f all =
    let here = s.1.gathered (let same = e in omega (arith, same, low)) in
    let size = total_is harts (points_of r.walk.taken) g here in
    (s.0, (omega (arith, size, e, low)), f ∙ all harts (points_of r.walk.taken) here)

-- what the steps that are left give is what all give
pub rest_into : (harts most : ℕ) (first now : Joining) (g : Gathered) (result : Result (Unit {0}) RaceError) (next : Gathered) → IsOnTheWay harts most first now g → GathersRest most now g result next → GathersInto harts most (run_all first) result next
rest_into harts most first now g (Ok u) next w r = r harts first w
rest_into harts most first now g (Err e) next w r = r harts first w
