-- Chains in the walks of allowed orders.
use Rattle.joint_replay.proofs.Common.{◌≡◌, ℕ, zero, suc, ◌<◌, ◌≤◌, Bool, true, ◌⊎◌, inl, inr, nat_lt, refl, sym, ap, ◌∙◌, subst, arith, List, [], ◌∷◌, slice_get, slice_set, Option, Some, None, Result, Ok, Err, eqb_tells, Program, Record, ReplayError, Coming, Readiness, Cursor, Lane, Item, coming_of, count_of, lane_step, memory_after, Joining, Taken, Walk, begun, longer, fresh, is_passed, readiness_of, move, IsBegun, ready_step, walk_on, AreCursors, ArePoints, InCursors, IsRowAt, Passes, PassesIf, IsSound, StepsPass, ChainsAreKept, lt-ltb, ltb-true}
use Rattle.joint_replay.specs.declared.kinds.Readiness.TheVariants as is
use Rattle.joint_replay.specs.Chains.{StepTo, Leads, one, more, Did, IsLeft, IsToDo}
use Rattle.joint_replay.proofs.LaneSteps.{cursor_passed, first_goes}
use Rattle.joint_replay.proofs.Soundness.{get_same, get_other, some_is, sources_passed, after_sound}

-- ---- passed instructions

lower : (c : Option Coming) (n k : ℕ) → k ≤ n → elim c as (λ x. Bool) [ None ↦ true | Some d ↦ nat_lt n (count_of d) ] ≡ true → elim c as (λ x. Bool) [ None ↦ true | Some d ↦ nat_lt k (count_of d) ] ≡ true
lower None n k low e = refl
lower (Some d) n k low e = let up = ltb-true n (count_of d) e in lt-ltb k (count_of d) (omega (arith, up, low))

pub passed_lower : (o : Option Lane) (n k : ℕ) → k ≤ n → is_passed o n ≡ true → is_passed o k ≡ true
passed_lower None n k low e = refl
passed_lower (Some lane) n k low e = lower (coming_of lane) n k low e

-- what is still to be done isn't passed
pub undone : (i : Program) (points : List ℕ) (cursors : List Cursor) (k : ℕ) → ArePoints points cursors → AreCursors i cursors → is_passed (Some (record { points = points; cursors = cursors })) k ≡ true → InCursors cursors k → ⊥
undone i points [] k a s e h = absurd h
undone i [] (c ∷ cs) k a s e h = let low = ltb-true k c.state.ic (sym (cursor_passed i c cs k (first_goes i c cs s).0) ∙ e) in omega (arith, low, h.0)
undone i (p ∷ ps) (c ∷ cs) k a s e h = let low = ltb-true k p e in let up = under p ps a in omega (arith, low, up, h.0)
  where
    under : (p : ℕ) (ps : List ℕ) → ArePoints (p ∷ ps) (c ∷ cs) → p < c.state.ic
    under p [] b = b
    under p (r ∷ rs) b = let later = under r rs b.1 in omega (arith, b.0, later)

module _ (now : Joining) (sound : IsSound now) where
  passed_back : {k n : ℕ} (s j : ℕ) → StepTo now.records s j k n → is_passed (slice_get now.lanes k) n ≡ true → is_passed (slice_get now.lanes s) j ≡ true
  passed_back {k = k} {n = n} s j (inl own) e = passed_lower (slice_get now.lanes s) n j (let low = own.1 in omega (arith, low)) (ap (λ t. is_passed (slice_get now.lanes t) n) own.0 ∙ e)
  passed_back {k = k} {n = n} s j (inr edge) e = let l = sound.there k n s j edge in sound.closed k n s j l.0 edge l.1 (sym (ap (λ o. is_passed o n) l.1) ∙ e)

  passed_along : (s j : ℕ) {k n : ℕ} → Leads now.records s j k n → is_passed (slice_get now.lanes k) n ≡ true → is_passed (slice_get now.lanes s) j ≡ true
  passed_along s j (one step) e = passed_back s j step e
  passed_along s j (more {k = k} {n = n} before step) e = passed_along s j before (passed_back k n step e)

  -- so of what leads to an instruction whose own predecessors are passed
  passed_to : (h ic : ℕ) → ((k n : ℕ) → StepTo now.records k n h ic → is_passed (slice_get now.lanes k) n ≡ true) → (s j : ℕ) → Leads now.records s j h ic → is_passed (slice_get now.lanes s) j ≡ true
  passed_to h ic all s j (one step) = all s j step
  passed_to h ic all s j (more {k = k} {n = n} before step) = passed_along s j before (all k n step)

  not_left : (s j : ℕ) (o : Option Lane) → slice_get now.lanes s ≡ o → is_passed o j ≡ true → IsLeft o j → ⊥
  not_left s j None e p h = h
  not_left s j (Some lane) e p h = undone now.program lane.points lane.cursors j (sound.lanes s lane e).points (sound.lanes s lane e).cursors p h

-- ---- walks

pub record IsOrdered (start : Joining) (w : Walk) : Type 0 where
  pub sound : IsSound w.now
  pub same : w.now.records ≡ start.records
  pub done : (h k : ℕ) → IsToDo start h k → ((x : ℕ) × Did w.taken x h k) ⊎ IsToDo w.now h k
  pub before : (y h ic : ℕ) → Did w.taken y h ic → (s j : ℕ) → Leads start.records s j h ic → IsToDo start s j → (x : ℕ) × Did w.taken x s j × (y < x)

later : (t : Taken) (ts : List Taken) (x h k : ℕ) → Did ts x h k → Did (t ∷ ts) (suc x) h k
later t ts x h k d = record { step = d.step; at = d.at; hart_is = d.hart_is; row = d.row }

module _ (start : Joining) (w : Walk) (ordered : IsOrdered start w) (h : ℕ) (lane : Lane) (at : slice_get w.now.lanes h ≡ Some lane)
    (ready : readiness_of w.now.records w.now.lanes h lane ≡ is.Ready) (next : Lane) (item : Item) (passes : Passes w.now.program lane item next) where
  -- the predecessors of an instruction that the step does are passed
  all_passed : (ic : ℕ) → IsRowAt ic item → (k n : ℕ) → StepTo w.now.records k n h ic → is_passed (slice_get w.now.lanes k) n ≡ true
  all_passed ic row k n (inl own) = ap (λ t. is_passed (slice_get w.now.lanes t) n) own.0 ∙ (ap (λ o. is_passed o n) at ∙ (passes.at ic row).1 n own.1)
  all_passed ic row k n (inr edge) = sources_passed w.now.records w.now.lanes h lane ready ic k n (passes.at ic row).0 edge

  still : (k : ℕ) (n : ℕ) → IsToDo w.now k n → ((x : ℕ) × Did (record { hart = h; item = item } ∷ w.taken) x k n) ⊎ IsLeft (slice_get (slice_set w.now.lanes h next) k) n
  still k n left = elim (eqb_tells h k) [
    | inl same ↦ elim (passes.rows n (subst (λ o. IsLeft o n) at (subst (λ m. IsToDo w.now m n) (sym same.1) left))) [
      | inl to_do ↦ inr (subst (λ m. IsLeft (slice_get (slice_set w.now.lanes h next) m) n) same.1 (subst (λ o. IsLeft o n) (sym (get_same w.now.lanes h lane next at)) to_do))
      | inr row ↦ inl (0, record { step = record { hart = h; item = item }; at = refl; hart_is = same.1; row = row })
    ]
    | inr apart ↦ inr (subst (λ o. IsLeft o n) (sym (get_other w.now.lanes h k next apart.1)) left)
  ]

  goes_before : (y k ic : ℕ) → Did (record { hart = h; item = item } ∷ w.taken) y k ic → (s j : ℕ) → Leads start.records s j k ic → IsToDo start s j
      → (x : ℕ) × Did (record { hart = h; item = item } ∷ w.taken) x s j × (y < x)
  goes_before zero k ic d s j leads to_do =
      let is : ◌≡◌ {A = Taken} (record { hart = h; item = item }) d.step = some_is (record { hart = h; item = item }) d.step (Some (record { hart = h; item = item })) refl d.at in
      let hart : h ≡ k = ap (λ (u : Taken). u.hart) is ∙ d.hart_is in
      let row : IsRowAt ic item = subst (λ (u : Taken). IsRowAt ic u.item) (sym is) d.row in
      let passed : is_passed (slice_get w.now.lanes s) j ≡ true =
      passed_to w.now ordered.sound h ic (all_passed ic row) s j (subst (λ rs. Leads rs s j h ic) (sym ordered.same) (subst (λ m. Leads start.records s j m ic) (sym hart) leads)) in
      elim (ordered.done s j to_do) [
        | inl x ↦ (suc x.0, later (record { hart = h; item = item }) w.taken x.0 s j x.1, omega arith)
        | inr left ↦ absurd (not_left w.now ordered.sound s j (slice_get w.now.lanes s) refl passed left)
      ]
  goes_before (suc y) k ic d s j leads to_do =
      let x = ordered.before y k ic (record { step = d.step; at = d.at; hart_is = d.hart_is; row = d.row }) s j leads to_do in
      (suc x.0, later (record { hart = h; item = item }) w.taken x.0 s j x.1, let up = x.2 in omega (arith, up))

  pub step_ordered : IsOrdered start (longer w h (item, record w.now { lanes = slice_set w.now.lanes h next; memory = memory_after item w.now.memory }))
  step_ordered = record {
    sound = after_sound w.now h ordered.sound lane at ready next item passes;
    same = ordered.same;
    done = λ k n to_do. elim (ordered.done k n to_do) [
      | inl x ↦ inl (suc x.0, later (record { hart = h; item = item }) w.taken x.0 k n x.1)
      | inr left ↦ still k n left
    ];
    before = goes_before;
  }

-- ---- each step

module _ (now : Joining) (h : ℕ) (P : Item × Joining → Type 0) where
  abbrev pub If : Option (Item × Joining) → Type 0
  If None = Unit {0}
  If (Some x) = P x

  abbrev only_ok : Option (Result (Item × Joining) ReplayError) → Option (Item × Joining)
  only_ok o = elim o [ None ↦ None | Some r ↦ elim r [ Err e ↦ None | Ok x ↦ Some x ] ]

  abbrev if_ready : Readiness → Option (Item × Joining) → Option (Item × Joining)
  if_ready r o = elim r [ is.Ready ↦ o | is.Waits s ic ↦ None | is.Done ↦ None ]

  abbrev unrefused : Option ReplayError → Option (Result (Item × Joining) ReplayError) → Option (Result (Item × Joining) ReplayError)
  unrefused refused o = elim refused [ Some e ↦ Some (Err e) | None ↦ o ]

  abbrev OnStep : Lane → Type 0
  OnStep lane = (item : Item) (next : Lane) → Passes now.program lane item next → P (item, record now { lanes = slice_set now.lanes h next; memory = memory_after item now.memory })

  by_step : (lane : Lane) → OnStep lane → (o : Option (Result (Item × Lane) ReplayError)) → PassesIf now.program lane o → If (only_ok (move now h o))
  by_step lane does None p = tt
  by_step lane does (Some (Err e)) p = tt
  by_step lane does (Some (Ok x)) p = does x.0 x.1 p

  by_refusal : (lane : Lane) → OnStep lane → (refused : Option ReplayError) (o : Option (Result (Item × Lane) ReplayError)) → PassesIf now.program lane o → If (only_ok (unrefused refused (move now h o)))
  by_refusal lane does (Some e) o p = tt
  by_refusal lane does None o p = by_step lane does o p

  by_ready : StepsPass → IsSound now → ((lane : Lane) → slice_get now.lanes h ≡ Some lane → readiness_of now.records now.lanes h lane ≡ is.Ready → OnStep lane)
      → (lane : Lane) → slice_get now.lanes h ≡ Some lane → (r : Readiness) → readiness_of now.records now.lanes h lane ≡ r
      → If (if_ready r (only_ok (unrefused now.refused (move now h (lane_step now.program lane)))))
  by_ready pass sound does lane at is.Ready e = by_refusal lane (does lane at e) now.refused (lane_step now.program lane) (pass now.program lane (sound.lanes h lane at))
  by_ready pass sound does lane at (is.Waits s ic) e = tt
  by_ready pass sound does lane at is.Done e = tt

  pub by_lane : StepsPass → IsSound now → ((lane : Lane) → slice_get now.lanes h ≡ Some lane → readiness_of now.records now.lanes h lane ≡ is.Ready → OnStep lane)
      → (o : Option Lane) → slice_get now.lanes h ≡ o
      → If (if_ready (elim o as (λ x. Readiness) [ None ↦ is.Done | Some lane ↦ readiness_of now.records now.lanes h lane ])
      (only_ok (unrefused now.refused (elim o as (λ x. Option (Result (Item × Joining) ReplayError)) [ None ↦ None | Some lane ↦ move now h (lane_step now.program lane) ]))))
  by_lane pass sound does None e = tt
  by_lane pass sound does (Some lane) e = by_ready pass sound does lane e (readiness_of now.records now.lanes h lane) refl

abbrev OrderedIf : Joining → Option Walk → Type 0
OrderedIf start None = Unit {0}
OrderedIf start (Some w) = IsOrdered start w

walk_ordered : StepsPass → (start : Joining) (w : Walk) (order : List ℕ) → IsOrdered start w → OrderedIf start (walk_on w order)
walk_ordered pass start w [] ordered = ordered
walk_ordered pass start w (h ∷ hs) ordered = by (ready_step w.now h) goes (λ v. walk_ordered pass start v hs)
  where
    goes : If w.now h (λ x. IsOrdered start (longer w h x)) (ready_step w.now h)
    goes = by_lane w.now h (λ x. IsOrdered start (longer w h x)) pass ordered.sound (λ lane at ready item next passes. step_ordered start w ordered h lane at ready next item passes) (slice_get w.now.lanes h) refl

    by : (o : Option (Item × Joining)) → If w.now h (λ x. IsOrdered start (longer w h x)) o → ((v : Walk) → IsOrdered start v → OrderedIf start (walk_on v hs))
        → OrderedIf start (elim o as (λ x. Option Walk) [ None ↦ None | Some x ↦ walk_on (longer w h x) hs ])
    by None p rest = tt
    by (Some x) p rest = rest (longer w h x) p

none : (ts : List Taken) → ts ≡ [] → (y : ℕ) (u : Taken) → slice_get ts y ≡ Some u → ⊥
none [] e y u f = cc
none (t ∷ ts) e y u f = cc

module _ (pass : StepsPass) (i : Program) (harts : ℕ) (records : List Record) (order : List ℕ) (w : Walk) (sound : IsSound (fresh i harts records)) (b : IsBegun i harts records order w) where
  ordered : IsOrdered (fresh i harts records) w
  ordered = subst (OrderedIf (fresh i harts records)) b.allowed (walk_ordered pass (fresh i harts records) (begun (fresh i harts records)) order first)
    where
      first : IsOrdered (fresh i harts records) (begun (fresh i harts records))
      first = record {
        sound = sound;
        same = refl;
        done = λ h k to_do. inr to_do;
        before = λ y h ic d s j leads to_do. absurd (none [] refl y d.step d.at);
      }

  -- allowed orders keep it sound
  pub walks_are_sound : IsSound w.now
  walks_are_sound = ordered.sound

pub chains_are_kept : StepsPass → ChainsAreKept
chains_are_kept pass i harts records order w sound b = (ordered pass i harts records order w sound b).before
