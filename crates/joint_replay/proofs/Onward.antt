-- Runs, step by step.
use Rattle.joint_replay.proofs.Common.{◌≡◌, ℕ, zero, suc, ◌+◌, ◌<◌, ◌⊎◌, inl, inr, refl, sym, ap, ◌∙◌, subst, arith, List, [], ◌∷◌, ◌++◌, append_assoc, length, slice_get, slice_set, Option, Some, None, Result, Ok, Err, append-nil, Program, Row, ReplayError, Outcome, Done, Refused, JointError, Stuck, Next, Hart, AllDone, NoneReady, Cursor, Lane, Item, Doing, Ending, row_given, cursors_steps, lane_step, lane_steps, memory_after, Joining, Taken, Walk, Ran, begun, ran, choice, move, next_step, error_of, positions_from, steps_left, run_on, run_for, run_all, item_text, steps_text, same_Some}
use Rattle.joint_replay.specs.Runs.{one_step, IsStep, IsFirstTaken, RunsGoOn, RunsEnd}

-- ---- a step lowers what is left

same_pair : (x y : Item × Lane) → ◌≡◌ {A = Result (Item × Lane) ReplayError} (Ok x) (Ok y) → x ≡ y
same_pair x y e = cc

-- an interval's step, by what is left of it
abbrev step_by : Program → Cursor → List Cursor → List Row → Outcome → Result (Item × Lane) ReplayError
step_by i c cs rows o = elim rows [
  | r ∷ rs ↦ Ok (Doing c.state r, record { points = []; cursors = row_given i c r rs ∷ cs })
  | [] ↦ elim o [ Done ↦ Ok (Ending c.number c.mark, record { points = []; cursors = cs }) | Refused e ↦ Err e ]
]

cursor_fewer : (i : Program) (c : Cursor) (cs : List Cursor) (rows : List Row) (o : Outcome) (x : Item × Lane) → step_by i c cs rows o ≡ Ok x → lane_steps x.1 < length rows + 1 + cursors_steps cs
cursor_fewer i c cs [] Done x e = subst (λ (y : Item × Lane). lane_steps y.1 < 0 + 1 + cursors_steps cs) (same_pair (Ending c.number c.mark, record { points = []; cursors = cs }) x e) (omega arith)
cursor_fewer i c cs [] (Refused g) x e = absurd cc
cursor_fewer i c cs (r ∷ rs) o x e = subst (λ (y : Item × Lane). lane_steps y.1 < length (r ∷ rs) + 1 + cursors_steps cs) (same_pair (Doing c.state r, record { points = []; cursors = row_given i c r rs ∷ cs }) x e) (omega arith)

lane_fewer : (i : Program) (points : List ℕ) (cursors : List Cursor) (x : Item × Lane) → lane_step i (record { points = points; cursors = cursors }) ≡ Some (Ok x) → lane_steps x.1 < length points + cursors_steps cursors
lane_fewer i [] [] x e = absurd cc
lane_fewer i [] (c ∷ cs) x e =
    let low = cursor_fewer i c cs c.left.rows c.left.outcome x (same_Some (step_by i c cs c.left.rows c.left.outcome) (Ok x) e) in
    omega (arith, low)
lane_fewer i (p ∷ ps) cursors x e =
    subst (λ (y : Item × Lane). lane_steps y.1 < length (p ∷ ps) + cursors_steps cursors) (same_pair _ x (same_Some _ (Ok x) e)) (omega arith)

set_fewer : (ls : List Lane) (h : ℕ) (lane new : Lane) → slice_get ls h ≡ Some lane → lane_steps new < lane_steps lane → steps_left (slice_set ls h new) < steps_left ls
set_fewer [] h lane new e low = absurd cc
set_fewer (l ∷ ls) zero lane new e low = let same : l ≡ lane = cc in let less : lane_steps new < lane_steps l = subst (λ (y : Lane). lane_steps new < lane_steps y) (sym same) low in omega (arith, less)
set_fewer (l ∷ ls) (suc h) lane new e low = let rest = set_fewer ls h lane new e low in omega (arith, rest)

same_set : (x y : Item × Joining) → ◌≡◌ {A = Option (Result (Item × Joining) ReplayError)} (Some (Ok x)) (Some (Ok y)) → x ≡ y
same_set x y e = cc

by_lane : (j : Joining) (h : ℕ) (lane : Lane) (o : Option (Result (Item × Lane) ReplayError)) (x : Item × Joining) → slice_get j.lanes h ≡ Some lane → lane_step j.program lane ≡ o → move j h o ≡ Some (Ok x)
    → steps_left x.1.lanes < steps_left j.lanes
by_lane j h lane None x at e f = absurd cc
by_lane j h lane (Some (Err g)) x at e f = absurd cc
by_lane j h lane (Some (Ok y)) x at e f =
    subst (λ (z : Item × Joining). steps_left z.1.lanes < steps_left j.lanes) (same_set (y.0, record j { lanes = slice_set j.lanes h y.1; memory = memory_after y.0 j.memory }) x f)
    (set_fewer j.lanes h lane y.1 at (lane_fewer j.program lane.points lane.cursors y e))

pub step_fewer : (j : Joining) (h : ℕ) (x : Item × Joining) → next_step j h ≡ Some (Ok x) → steps_left x.1.lanes < steps_left j.lanes
step_fewer j h x e = by j.refused (slice_get j.lanes h) refl e
  where
    by : (r : Option ReplayError) (o : Option Lane) → slice_get j.lanes h ≡ o
        → elim r as (λ y. Option (Result (Item × Joining) ReplayError)) [ Some g ↦ Some (Err g) | None ↦ elim o as (λ y. Option (Result (Item × Joining) ReplayError)) [ None ↦ None | Some lane ↦ move j h (lane_step j.program lane) ] ] ≡ Some (Ok x)
        → steps_left x.1.lanes < steps_left j.lanes
    by (Some g) o at f = absurd cc
    by None None at f = absurd cc
    by None (Some lane) at f = by_lane j h lane (lane_step j.program lane) x at refl f

-- ---- what a step makes of a run, whatever was before and comes after

abbrev pub walk_of : List Taken → Joining → Walk
walk_of ts j = record { taken = ts; now = j }

abbrev pub taken_by : ℕ → Item → Taken
taken_by h item = record { hart = h; item = item }

abbrev by_step : List Taken → Joining → (Walk → Ran) → ℕ → Option (Result (Item × Joining) ReplayError) → Ran
by_step ts j go h o = elim o [
  | None ↦ ran (walk_of ts j) None
  | Some r ↦ elim r [ Err e ↦ ran (walk_of ts (record j { refused = Some e })) (Some (error_of e)) | Ok x ↦ go (walk_of (taken_by h x.0 ∷ ts) x.1) ]
]

abbrev by_choice : List Taken → Joining → (Walk → Ran) → Next → Ran
by_choice ts j go n = elim n [ AllDone ↦ ran (walk_of ts j) None | NoneReady ↦ ran (walk_of ts j) (Some (Stuck (positions_from 0 j.lanes))) | Hart h ↦ by_step ts j go h (next_step j h) ]

abbrev by_refusal : List Taken → Joining → (Walk → Ran) → Option ReplayError → Ran
by_refusal ts j go o = elim o [ Some e ↦ ran (walk_of ts j) (Some (error_of e)) | None ↦ by_choice ts j go (choice j) ]

-- a step is taken, and the run continues
abbrev Goes : Joining → Taken → Joining → Type 0
Goes j t next = (ts : List Taken) (go : Walk → Ran) → run_on (walk_of ts j) go ≡ go (walk_of (t ∷ ts) next)

-- none is
abbrev Stops : Joining → Joining → Option JointError → Type 0
Stops j next s = (ts : List Taken) (go : Walk → Ran) → run_on (walk_of ts j) go ≡ ran (walk_of ts next) s

pub record Onward (j : Joining) : Type 0 where
  pub taken : Taken
  pub next : Joining
  pub goes : Goes j taken next
  pub fewer : steps_left next.lanes < steps_left j.lanes

pub record Over (j : Joining) : Type 0 where
  pub next : Joining
  pub stopped : Option JointError
  pub stops : Stops j next stopped
  pub same : stopped ≡ None → next ≡ j

refused_there : (j : Joining) (e : ReplayError) → j.refused ≡ Some e → Stops j j (Some (error_of e))
refused_there j e f = λ ts go. ap (by_refusal ts j go) f

pub all_done : (j : Joining) → j.refused ≡ None → choice j ≡ AllDone → Stops j j None
all_done j none c = λ ts go. ap (by_refusal ts j go) none ∙ ap (by_choice ts j go) c

pub none_ready : (j : Joining) → j.refused ≡ None → choice j ≡ NoneReady → Stops j j (Some (Stuck (positions_from 0 j.lanes)))
none_ready j none c = λ ts go. ap (by_refusal ts j go) none ∙ ap (by_choice ts j go) c

by_next : (j : Joining) (h : ℕ) (o : Option (Result (Item × Joining) ReplayError)) → j.refused ≡ None → choice j ≡ Hart h → next_step j h ≡ o → (ts : List Taken) (go : Walk → Ran) → run_on (walk_of ts j) go ≡ by_step ts j go h o
by_next j h o none c e ts go = ap (by_refusal ts j go) none ∙ ap (by_choice ts j go) c ∙ ap (by_step ts j go h) e

pub step_taken : (j : Joining) (h : ℕ) (x : Item × Joining) → j.refused ≡ None → choice j ≡ Hart h → next_step j h ≡ Some (Ok x) → IsStep j (taken_by h x.0) x.1
step_taken j h x none c e = by_next j h (Some (Ok x)) none c e [] (λ v. run_for 0 v)

pub step_refused : (j : Joining) (h : ℕ) (e : ReplayError) → j.refused ≡ None → choice j ≡ Hart h → next_step j h ≡ Some (Err e) → one_step j ≡ ran (begun (record j { refused = Some e })) (Some (error_of e))
step_refused j h e none c f = by_next j h (Some (Err e)) none c f [] (λ v. run_for 0 v)

shape_step : (j : Joining) (h : ℕ) (o : Option (Result (Item × Joining) ReplayError)) → j.refused ≡ None → choice j ≡ Hart h → next_step j h ≡ o → Onward j ⊎ Over j
shape_step j h None none c e = inr (record { next = j; stopped = None; stops = by_next j h None none c e; same = λ s. refl })
shape_step j h (Some (Err g)) none c e = inr (record { next = record j { refused = Some g }; stopped = Some (error_of g); stops = by_next j h (Some (Err g)) none c e; same = λ s. absurd cc })
shape_step j h (Some (Ok x)) none c e = inl (record { taken = taken_by h x.0; next = x.1; goes = by_next j h (Some (Ok x)) none c e; fewer = step_fewer j h x e })

shape_choice : (j : Joining) (n : Next) → j.refused ≡ None → choice j ≡ n → Onward j ⊎ Over j
shape_choice j AllDone none c = inr (record { next = j; stopped = None; stops = all_done j none c; same = λ s. refl })
shape_choice j NoneReady none c = inr (record { next = j; stopped = Some (Stuck (positions_from 0 j.lanes)); stops = none_ready j none c; same = λ s. refl })
shape_choice j (Hart h) none c = shape_step j h (next_step j h) none c refl

shape_refused : (j : Joining) (o : Option ReplayError) → j.refused ≡ o → Onward j ⊎ Over j
shape_refused j (Some e) f = inr (record { next = j; stopped = Some (error_of e); stops = refused_there j e f; same = λ s. refl })
shape_refused j None f = shape_choice j (choice j) f refl

shape : (j : Joining) → Onward j ⊎ Over j
shape j = shape_refused j j.refused refl

-- ---- runs of other lengths, and after other steps

fuel : (n m : ℕ) (ts : List Taken) (j : Joining) → steps_left j.lanes < n → steps_left j.lanes < m → run_for n (walk_of ts j) ≡ run_for m (walk_of ts j)
fuel zero m ts j low high = absurd (omega (arith, low))
fuel (suc n) zero ts j low high = absurd (omega (arith, high))
fuel (suc n) (suc m) ts j low high = by (shape j) (λ us k a b. fuel n m us k a b)
  where
    by : Onward j ⊎ Over j → ((us : List Taken) (k : Joining) → steps_left k.lanes < n → steps_left k.lanes < m → run_for n (walk_of us k) ≡ run_for m (walk_of us k)) → run_for (suc n) (walk_of ts j) ≡ run_for (suc m) (walk_of ts j)
    by (inl o) rest = let less = o.fewer in o.goes ts (λ v. run_for n v) ∙ rest (o.taken ∷ ts) o.next (omega (arith, less, low)) (omega (arith, less, high)) ∙ sym (o.goes ts (λ v. run_for m v))
    by (inr o) rest = o.stops ts (λ v. run_for n v) ∙ sym (o.stops ts (λ v. run_for m v))

abbrev with_older : List Taken → Ran → Ran
with_older us r = ran (walk_of (r.walk.taken ++ us) r.walk.now) r.stopped

run_older : (n : ℕ) (ts us : List Taken) (j : Joining) → run_for n (walk_of (ts ++ us) j) ≡ with_older us (run_for n (walk_of ts j))
run_older zero ts us j = refl
run_older (suc n) ts us j = by (shape j) (λ xs k. run_older n xs us k)
  where
    by : Onward j ⊎ Over j → ((xs : List Taken) (k : Joining) → run_for n (walk_of (xs ++ us) k) ≡ with_older us (run_for n (walk_of xs k))) → run_for (suc n) (walk_of (ts ++ us) j) ≡ with_older us (run_for (suc n) (walk_of ts j))
    by (inl o) rest = o.goes (ts ++ us) (λ v. run_for n v) ∙ rest (o.taken ∷ ts) o.next ∙ ap (with_older us) (sym (o.goes ts (λ v. run_for n v)))
    by (inr o) rest = o.stops (ts ++ us) (λ v. run_for n v) ∙ ap (with_older us) (sym (o.stops ts (λ v. run_for n v)))

text_older : (ts us : List Taken) → steps_text (ts ++ us) ≡ steps_text us ++ steps_text ts
text_older [] us = sym (append-nil (steps_text us))
text_older (t ∷ ts) us = ap (λ (x : List ℕ). x ++ item_text t.hart t.item) (text_older ts us) ∙ append_assoc (steps_text us) (steps_text ts) (item_text t.hart t.item)

-- ---- the first step of a run

no_steps : (t : Taken) (ts : List Taken) → ◌≡◌ {A = List Taken} [] (t ∷ ts) → ⊥
no_steps t ts e = cc

same_taken : (t u : Taken) → ◌≡◌ {A = List Taken} (t ∷ []) (u ∷ []) → t ≡ u
same_taken t u e = cc

-- a step that is taken is the one of the shape
pub is_onward : (j : Joining) (t : Taken) (next : Joining) → IsStep j t next → (o : Onward j) × (o.taken ≡ t) × (o.next ≡ next)
is_onward j t next e = by (shape j)
  where
    by : Onward j ⊎ Over j → (o : Onward j) × (o.taken ≡ t) × (o.next ≡ next)
    by (inl o) = let same = sym (o.goes [] (λ v. run_for 0 v)) ∙ e in (o, same_taken o.taken t (ap (λ (r : Ran). r.walk.taken) same), ap (λ (r : Ran). r.walk.now) same)
    by (inr o) = absurd (no_steps t [] (ap (λ (r : Ran). r.walk.taken) (sym (o.stops [] (λ v. run_for 0 v)) ∙ e)))

all_is : (j : Joining) → run_all j ≡ run_for (suc (steps_left j.lanes)) (begun j)
all_is j = let one : steps_left j.lanes + 1 ≡ suc (steps_left j.lanes) = omega arith in ap (λ n. run_for n (begun j)) one

pub first_of : (j : Joining) (o : Onward j) → run_all j ≡ with_older (o.taken ∷ []) (run_all o.next)
first_of j o =
    let less = o.fewer in
    all_is j ∙ o.goes [] (λ v. run_for (steps_left j.lanes) v) ∙ run_older (steps_left j.lanes) [] (o.taken ∷ []) o.next
    ∙ ap (with_older (o.taken ∷ [])) (fuel (steps_left j.lanes) (steps_left o.next.lanes + 1) [] o.next less (omega arith))

is_first : (j : Joining) (o : Onward j) → IsFirstTaken j o.taken o.next
is_first j o = record {
  text = ap (λ (r : Ran). steps_text r.walk.taken) (first_of j o) ∙ text_older (run_all o.next).walk.taken (o.taken ∷ []);
  now = ap (λ (r : Ran). r.walk.now) (first_of j o);
  stopped = ap (λ (r : Ran). r.stopped) (first_of j o);
}

pub runs_go_on : RunsGoOn
runs_go_on j t next e =
    let o = is_onward j t next e in
    subst (λ (k : Joining). IsFirstTaken j t k) o.2 (subst (λ (u : Taken). IsFirstTaken j u o.0.next) o.1 (is_first j o.0))

pub runs_end : RunsEnd
runs_end j next s e = by (shape j)
  where
    by : Onward j ⊎ Over j → run_all j ≡ ran (begun next) s
    by (inl o) = absurd (no_steps o.taken [] (ap (λ (r : Ran). r.walk.taken) (sym e ∙ o.goes [] (λ v. run_for 0 v))))
    by (inr o) = all_is j ∙ o.stops [] (λ v. run_for (steps_left j.lanes) v) ∙ sym (o.stops [] (λ v. run_for 0 v)) ∙ e

-- ---- a run that is longer by one

same_walk : (w v : Walk) (s u : Option JointError) → ran w s ≡ ran v u → w ≡ v
same_walk w v s u e = ap (λ (r : Ran). r.walk) e

pub longer_run : (k : ℕ) (ts : List Taken) (j : Joining) (w : Walk) (t : Taken) (next : Joining) → run_for k (walk_of ts j) ≡ ran w None → IsStep w.now t next
    → run_for (suc k) (walk_of ts j) ≡ ran (walk_of (t ∷ w.taken) next) None
longer_run zero ts j w t next e s =
    let o = is_onward w.now t next s in
    ap (λ (v : Walk). run_for 1 v) (same_walk (walk_of ts j) w None None e) ∙ o.0.goes w.taken (λ v. run_for 0 v)
    ∙ ap (λ (u : Taken). ran (walk_of (u ∷ w.taken) o.0.next) None) o.1 ∙ ap (λ (x : Joining). ran (walk_of (t ∷ w.taken) x) None) o.2
longer_run (suc k) ts j w t next e s = by (shape j) (λ us i f. longer_run k us i w t next f s)
  where
    by : Onward j ⊎ Over j → ((us : List Taken) (i : Joining) → run_for k (walk_of us i) ≡ ran w None → run_for (suc k) (walk_of us i) ≡ ran (walk_of (t ∷ w.taken) next) None)
        → run_for (suc (suc k)) (walk_of ts j) ≡ ran (walk_of (t ∷ w.taken) next) None
    by (inl o) rest = o.goes ts (λ v. run_for (suc k) v) ∙ rest (o.taken ∷ ts) o.next (sym (o.goes ts (λ v. run_for k v)) ∙ e)
    by (inr o) rest =
        let at : ran (walk_of ts o.next) o.stopped ≡ ran w None = sym (o.stops ts (λ v. run_for k v)) ∙ e in
        let here : w.now ≡ j = sym (ap (λ (r : Ran). r.walk.now) at) ∙ o.same (ap (λ (r : Ran). r.stopped) at) in
        absurd (no_steps t [] (ap (λ (r : Ran). r.walk.taken) (sym (o.stops [] (λ v. run_for 0 v)) ∙ ap one_step (sym here) ∙ s)))
