-- If no hart is ready, each one waits for an earlier one, without end.
use Rattle.joint_replay.proofs.Common.{◌≡◌, ℕ, zero, suc, ◌+◌, ◌<◌, ◌≤◌, Bool, true, false, not, ◌&&◌, ◌||◌, ◌==◌, ◌⊎◌, inl, inr, nat_lt, refl, sym, ap, ◌∙◌, subst, arith, List, [], ◌∷◌, slice_get, Option, Some, None, Record, Header, FirstLoad, ScOk, ScFailed, Edge, End, Coming, PassAt, RowAt, EndAt, Readiness, Next, Hart, AllDone, NoneReady, sources_into, Cursor, Lane, coming_of, count_of, point_of, is_within, is_passed, first_waited, waits_for, readiness_of, choice_from, HasEdge, NeverStuck, and_parts, eqb-true, ltb-false}
use Rattle.joint_replay.specs.declared.kinds.Readiness.TheVariants as is
use Rattle.joint_replay.specs.Chains.{HaveTimes}

-- ---- what is waited for

-- the first that isn't passed is the source of an Edge, and isn't passed
abbrev pub Waited : List Record → List Lane → ℕ → ℕ → Option (ℕ × ℕ) → Type 0
Waited records lanes h ic None = Unit {0}
Waited records lanes h ic (Some p) = HasEdge records h ic p.0 p.1 × (is_passed (slice_get lanes p.0) p.1 ≡ false)

more_edges : (r : Record) (rs : List Record) (h ic s j : ℕ) → HasEdge rs h ic s j → HasEdge (r ∷ rs) h ic s j
more_edges (Header k n c pc x) rs h ic s j e = e
more_edges (FirstLoad k skip value) rs h ic s j e = e
more_edges (ScOk k) rs h ic s j e = e
more_edges (ScFailed k) rs h ic s j e = e
more_edges (Edge k n a b) rs h ic s j e = inr e
more_edges (End k m) rs h ic s j e = e

waited_more : (r : Record) (rs : List Record) (lanes : List Lane) (h ic : ℕ) (o : Option (ℕ × ℕ)) → Waited rs lanes h ic o → Waited (r ∷ rs) lanes h ic o
waited_more r rs lanes h ic None w = tt
waited_more r rs lanes h ic (Some p) w = (more_edges r rs h ic p.0 p.1 w.0, w.1)

pub waited : (rs : List Record) (lanes : List Lane) (h ic : ℕ) → Waited rs lanes h ic (first_waited lanes (sources_into rs h ic))
waited [] lanes h ic = tt
waited (Header k n c pc x ∷ rs) lanes h ic = waited_more (Header k n c pc x) rs lanes h ic (first_waited lanes (sources_into rs h ic)) (waited rs lanes h ic)
waited (FirstLoad k skip value ∷ rs) lanes h ic = waited_more (FirstLoad k skip value) rs lanes h ic (first_waited lanes (sources_into rs h ic)) (waited rs lanes h ic)
waited (ScOk k ∷ rs) lanes h ic = waited_more (ScOk k) rs lanes h ic (first_waited lanes (sources_into rs h ic)) (waited rs lanes h ic)
waited (ScFailed k ∷ rs) lanes h ic = waited_more (ScFailed k) rs lanes h ic (first_waited lanes (sources_into rs h ic)) (waited rs lanes h ic)
waited (End k m ∷ rs) lanes h ic = waited_more (End k m) rs lanes h ic (first_waited lanes (sources_into rs h ic)) (waited rs lanes h ic)
waited (Edge k n a b ∷ rs) lanes h ic = by (k == h && (n == ic)) refl (waited_more (Edge k n a b) rs lanes h ic (first_waited lanes (sources_into rs h ic)) (waited rs lanes h ic))
  where
    here : (k == h && (n == ic)) ≡ true → (x : Bool) → is_passed (slice_get lanes a) b ≡ x → Waited (Edge k n a b ∷ rs) lanes h ic (first_waited lanes (sources_into rs h ic))
        → Waited (Edge k n a b ∷ rs) lanes h ic (elim x as (λ y. Option (ℕ × ℕ)) [ true ↦ first_waited lanes (sources_into rs h ic) | false ↦ Some (a, b) ])
    here e true passed w = w
    here e false passed w = let parts = and_parts (k == h) (n == ic) e in (inl (eqb-true k h parts.0, eqb-true n ic parts.1, refl, refl), passed)

    by : (x : Bool) → (k == h && (n == ic)) ≡ x → Waited (Edge k n a b ∷ rs) lanes h ic (first_waited lanes (sources_into rs h ic))
        → Waited (Edge k n a b ∷ rs) lanes h ic (first_waited lanes (elim x as (λ y. List (ℕ × ℕ)) [ true ↦ (a, b) ∷ sources_into rs h ic | false ↦ sources_into rs h ic ]))
    by true e w = here e (is_passed (slice_get lanes a) b) refl w
    by false e w = w

-- ---- a hart that isn't ready

abbrev pub is_ready : Readiness → Bool
is_ready is.Ready = true
is_ready (is.Waits s ic) = false
is_ready is.Done = false

-- a hart with something to come that isn't ready is at a point, and waits there
pub record WaitsAt (records : List Record) (lanes : List Lane) (h : ℕ) (lane : Lane) : Type 0 where
  pub point : ℕ
  pub at : (c : Coming) → coming_of lane ≡ Some c → point ≡ count_of c
  pub source : ℕ
  pub count : ℕ
  pub edge : HasEdge records h point source count
  pub waits : is_passed (slice_get lanes source) count ≡ false

some_is : {X : Type 0} (x y : X) (o : Option X) → o ≡ Some x → o ≡ Some y → x ≡ y
some_is {X = X} x y o e f = let g : ◌≡◌ {A = Option X} (Some x) (Some y) = sym e ∙ f in cc

-- a point is at the count that comes
points_come : (points : List ℕ) (cursors : List Cursor) (k : ℕ) (c : Coming) → point_of (record { points = points; cursors = cursors }) ≡ Some k → coming_of (record { points = points; cursors = cursors }) ≡ Some c → k ≡ count_of c
points_come (p ∷ ps) cursors k c e f = sym (some_is p k (Some p) refl e) ∙ ap count_of (some_is (PassAt p) c (Some (PassAt p)) refl f)
points_come [] [] k c e f = cc
points_come [] (d ∷ ds) k c e f = by (is_within d) refl e f
  where
    by : (b : Bool) → is_within d ≡ b → elim b as (λ x. Option ℕ) [ true ↦ Some d.state.ic | false ↦ None ] ≡ Some k
        → elim (b || (nat_lt 16 d.mark.reason && not d.faulted)) as (λ x. Option Coming) [ true ↦ Some (RowAt d.state.ic) | false ↦ Some (EndAt d.mark.ic) ] ≡ Some c → k ≡ count_of c
    by true i e f = sym (some_is d.state.ic k (Some d.state.ic) refl e) ∙ ap count_of (some_is (RowAt d.state.ic) c (Some (RowAt d.state.ic)) refl f)
    by false i e f = cc

module _ (records : List Record) (lanes : List Lane) (h : ℕ) (lane : Lane) where
  by_point : (k : ℕ) → point_of lane ≡ Some k → (o : Option (ℕ × ℕ)) → first_waited lanes (sources_into records h k) ≡ o → Waited records lanes h k o → is_ready (waits_for o) ≡ false → WaitsAt records lanes h lane
  by_point k e None f w r = absurd cc
  by_point k e (Some p) f w r = record { point = k; at = λ c g. points_come lane.points lane.cursors k c e g; source = p.0; count = p.1; edge = w.0; waits = w.1 }

  pub not_ready : (d : Option Coming) (q : Option ℕ) → coming_of lane ≡ d → point_of lane ≡ q
      → is_ready (elim d as (λ x. Readiness) [ None ↦ is.Done | Some c ↦ elim q as (λ x. Readiness) [ None ↦ is.Ready | Some ic ↦ waits_for (first_waited lanes (sources_into records h ic)) ] ]) ≡ false
      → (c : Coming) → d ≡ Some c → WaitsAt records lanes h lane
  not_ready None q e f r c g = cc
  not_ready (Some d) None e f r c g = absurd cc
  not_ready (Some d) (Some k) e f r c g = by_point k f (first_waited lanes (sources_into records h k)) refl (waited records lanes h k) r

-- ---- the descent

module _ (records : List Record) (lanes : List Lane) (time : ℕ → ℕ → ℕ) (times : HaveTimes records time)
    (stuck : (h : ℕ) (lane : Lane) → slice_get lanes h ≡ Some lane → is_ready (readiness_of records lanes h lane) ≡ false) where
  -- what isn't passed is still to come
  comes : (o : Option Lane) (j : ℕ) → is_passed o j ≡ false → (lane : Lane) × (c : Coming) × (o ≡ Some lane) × (coming_of lane ≡ Some c) × (count_of c ≤ j)
  comes None j e = absurd cc
  comes (Some lane) j e = by (coming_of lane) refl e
    where
      by : (d : Option Coming) → coming_of lane ≡ d → elim d as (λ x. Bool) [ None ↦ true | Some c ↦ nat_lt j (count_of c) ] ≡ false
          → (l : Lane) × (c : Coming) × (Some lane ≡ Some l) × (coming_of l ≡ Some c) × (count_of c ≤ j)
      by None i e = absurd cc
      by (Some c) i e = (lane, c, refl, i, ltb-false j (count_of c) e)

  waits : (h : ℕ) (lane : Lane) (c : Coming) → slice_get lanes h ≡ Some lane → coming_of lane ≡ Some c → WaitsAt records lanes h lane
  waits h lane c e f = not_ready records lanes h lane (coming_of lane) (point_of lane) refl refl (stuck h lane e) c f

  down : (n h : ℕ) (lane : Lane) (c : Coming) → slice_get lanes h ≡ Some lane → coming_of lane ≡ Some c → time h (count_of c) < n → ⊥
  down zero h lane c e f low = omega (arith, low)
  down (suc n) h lane c e f low =
      let w = waits h lane c e f in
      let next = comes (slice_get lanes w.source) w.count w.waits in
      let earlier : time w.source w.count < time h w.point = times.across h w.point w.source w.count w.edge in
      let here : time h w.point ≡ time h (count_of c) = ap (time h) (w.at c f) in
      let back : time w.source (count_of next.1) ≤ time w.source w.count = times.onward w.source (count_of next.1) w.count next.4 in
      down n w.source next.0 next.1 next.2 next.3 (omega (arith, earlier, here, back, low))

-- ---- the choice

abbrev pub is_none : Next → Bool
is_none NoneReady = true
is_none AllDone = false
is_none (Hart h) = false

no_lane : (ls : List Lane) → ls ≡ [] → (k : ℕ) (lane : Lane) → slice_get ls k ≡ Some lane → ⊥
no_lane [] e k lane f = cc
no_lane (l ∷ ls) e k lane f = cc

module _ (records : List Record) (lanes : List Lane) where
  abbrev pub NotReady : ℕ → List Lane → Type 0
  NotReady h ls = (k n : ℕ) (lane : Lane) → n ≡ h + k → slice_get ls k ≡ Some lane → is_ready (readiness_of records lanes n lane) ≡ false

  abbrev pub Comes : List Lane → Type 0
  Comes ls = (k : ℕ) × (lane : Lane) × (c : Coming) × (slice_get ls k ≡ Some lane) × (coming_of lane ≡ Some c)

  first_too : (h : ℕ) (l : Lane) (ls : List Lane) → is_ready (readiness_of records lanes h l) ≡ false → NotReady (h + 1) ls → NotReady h (l ∷ ls)
  first_too h l ls here rest zero n lane e f =
      let same : n ≡ h = omega (arith, e) in
      subst (λ m. is_ready (readiness_of records lanes m lane) ≡ false) (sym same) (subst (λ x. is_ready (readiness_of records lanes h x) ≡ false) (some_is l lane (Some l) refl f) here)
  first_too h l ls here rest (suc k) n lane e f = rest k n lane (omega (arith, e)) f

  later_comes : (l : Lane) (ls : List Lane) → Comes ls → Comes (l ∷ ls)
  later_comes l ls c = (suc c.0, c.1, c.2, c.3, c.4)

  -- a hart that waits has something to come
  waiting_comes : (h s ic : ℕ) (l : Lane) (ls : List Lane) → readiness_of records lanes h l ≡ is.Waits s ic → Comes (l ∷ ls)
  waiting_comes h s ic l ls e = by (coming_of l) refl e
    where
      by : (d : Option Coming) → coming_of l ≡ d
          → elim d as (λ x. Readiness) [ None ↦ is.Done | Some c ↦ elim (point_of l) as (λ x. Readiness) [ None ↦ is.Ready | Some k ↦ waits_for (first_waited lanes (sources_into records h k)) ] ] ≡ is.Waits s ic
          → Comes (l ∷ ls)
      by None i f = absurd cc
      by (Some c) i f = (0, l, c, refl, i)

  -- if none is chosen, no hart is ready, and some has something to come
  pub all_wait : (h : ℕ) (ls : List Lane) (waiting : Bool) → is_none (choice_from records lanes h ls waiting) ≡ true → NotReady h ls × ((waiting ≡ true) ⊎ Comes ls)
  all_wait h [] true e = (λ k n lane f g. absurd (no_lane [] refl k lane g), inl refl)
  all_wait h [] false e = absurd cc
  all_wait h (l ∷ ls) waiting e = by (readiness_of records lanes h l) refl e (all_wait (h + 1) ls)
    where
      by : (r : Readiness) → readiness_of records lanes h l ≡ r
          → is_none (elim r as (λ x. Next) [ is.Ready ↦ Hart h | is.Waits s ic ↦ choice_from records lanes (h + 1) ls true | is.Done ↦ choice_from records lanes (h + 1) ls waiting ]) ≡ true
          → ((b : Bool) → is_none (choice_from records lanes (h + 1) ls b) ≡ true → NotReady (h + 1) ls × ((b ≡ true) ⊎ Comes ls))
          → NotReady h (l ∷ ls) × ((waiting ≡ true) ⊎ Comes (l ∷ ls))
      by is.Ready i f rest = absurd cc
      by (is.Waits s ic) i f rest = (first_too h l ls (ap is_ready i) (rest true f).0, inr (waiting_comes h s ic l ls i))
      by is.Done i f rest = (first_too h l ls (ap is_ready i) (rest waiting f).0, elim (rest waiting f).1 [ inl w ↦ inl w | inr c ↦ inr (later_comes l ls c) ])

pub never_stuck : NeverStuck
never_stuck now time times e =
    let all = all_wait now.records now.lanes 0 now.lanes false (ap is_none e) in
    elim all.1 [
      | inl w ↦ absurd cc
      | inr c ↦ down now.records now.lanes time times (λ h lane f. all.0 h h lane (omega arith) f) (suc (time c.0 (count_of c.2))) c.0 c.1 c.2 c.3 c.4 (omega arith)
    ]
