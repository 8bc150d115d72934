-- A step of a ready hart keeps the sources of passed targets passed.
use Rattle.joint_replay.proofs.Common.{◌≡◌, ℕ, zero, suc, ◌<◌, Bool, true, false, ◌&&◌, ◌==◌, ◌⊎◌, inl, inr, refl, sym, ap, ◌∙◌, subst, arith, List, [], ◌∷◌, length, slice_get, slice_set, slice_index_or, Option, Some, None, Result, Ok, Err, eqb_tells, Record, Header, FirstLoad, ScOk, ScFailed, Edge, End, ReplayError, Coming, Readiness, sources_into, Lane, Item, coming_of, point_of, lane_step, memory_after, Joining, is_passed, first_waited, waits_for, readiness_of, move, IsLane, IsOn, Passes, PassesIf, HasEdge, IsSound, SoundIf, StepsPass, SoundnessStays, eq-eqb}
use Rattle.joint_replay.specs.declared.kinds.Readiness.TheVariants as is

-- ---- lists

pub get_same : {X : Type 0} (xs : List X) (h : ℕ) (x y : X) → slice_get xs h ≡ Some x → slice_get (slice_set xs h y) h ≡ Some y
get_same [] h x y e = cc
get_same (z ∷ xs) zero x y e = refl
get_same (z ∷ xs) (suc h) x y e = get_same xs h x y e

pub get_other : {X : Type 0} (xs : List X) (h k : ℕ) (y : X) → (h ≡ k → ⊥) → slice_get (slice_set xs h y) k ≡ slice_get xs k
get_other [] h k y apart = refl
get_other (z ∷ xs) zero zero y apart = absurd (apart refl)
get_other (z ∷ xs) zero (suc k) y apart = refl
get_other (z ∷ xs) (suc h) zero y apart = refl
get_other (z ∷ xs) (suc h) (suc k) y apart = get_other xs h k y (λ e. apart (ap suc e))

pub got_at : {X : Type 0} (xs : List X) (h : ℕ) (x : X) → h < length xs → x ≡ slice_index_or xs h x → slice_get xs h ≡ Some x
got_at [] h x low e = absurd (omega (arith, low))
got_at {X = X} (y ∷ xs) zero x low e = ap (λ (z : X). Some z) (sym e)
got_at (y ∷ xs) (suc h) x low e = got_at xs h x (omega (arith, low)) e

pub some_is : {X : Type 0} (x y : X) (o : Option X) → o ≡ Some x → o ≡ Some y → x ≡ y
some_is {X = X} x y o e f = let g : ◌≡◌ {A = Option X} (Some x) (Some y) = sym e ∙ f in cc

-- ---- what a ready hart doesn't wait for

abbrev Pairs : List (ℕ × ℕ) → ℕ → ℕ → Type 0
Pairs [] s j = ⊥
Pairs (p ∷ ps) s j = ((p.0 ≡ s) × (p.1 ≡ j)) ⊎ Pairs ps s j

both_same : (h ic : ℕ) → (h == h && (ic == ic)) ≡ true
both_same h ic = ap (λ b. b && (ic == ic)) (eq-eqb h h refl) ∙ eq-eqb ic ic refl

in_sources : (rs : List Record) (h ic s j : ℕ) → HasEdge rs h ic s j → Pairs (sources_into rs h ic) s j
in_sources [] h ic s j e = e
in_sources (Header k n c pc x ∷ rs) h ic s j e = in_sources rs h ic s j e
in_sources (FirstLoad k skip value ∷ rs) h ic s j e = in_sources rs h ic s j e
in_sources (ScOk k ∷ rs) h ic s j e = in_sources rs h ic s j e
in_sources (ScFailed k ∷ rs) h ic s j e = in_sources rs h ic s j e
in_sources (End k m ∷ rs) h ic s j e = in_sources rs h ic s j e
in_sources (Edge k n a b ∷ rs) h ic s j (inl e) =
    let it : (k == h && (n == ic)) ≡ true = ap (λ t. t == h && (n == ic)) e.0 ∙ ap (λ t. h == h && (t == ic)) e.1 ∙ both_same h ic in
    subst (λ t. Pairs (elim t as (λ x. List (ℕ × ℕ)) [ true ↦ (a, b) ∷ sources_into rs h ic | false ↦ sources_into rs h ic ]) s j) (sym it) (inl (e.2, e.3))
in_sources (Edge k n a b ∷ rs) h ic s j (inr e) = more (k == h && (n == ic)) (in_sources rs h ic s j e)
  where
    more : (t : Bool) → Pairs (sources_into rs h ic) s j → Pairs (elim t as (λ x. List (ℕ × ℕ)) [ true ↦ (a, b) ∷ sources_into rs h ic | false ↦ sources_into rs h ic ]) s j
    more true p = inr p
    more false p = p

not_waited : (lanes : List Lane) (ps : List (ℕ × ℕ)) (s j : ℕ) → first_waited lanes ps ≡ None → Pairs ps s j → is_passed (slice_get lanes s) j ≡ true
not_waited lanes [] s j e p = absurd p
not_waited lanes (q ∷ qs) s j e p = by (is_passed (slice_get lanes q.0) q.1) refl e p (not_waited lanes qs s j)
  where
    by : (b : Bool) → is_passed (slice_get lanes q.0) q.1 ≡ b → elim b as (λ x. Option (ℕ × ℕ)) [ true ↦ first_waited lanes qs | false ↦ Some q ] ≡ None → ((q.0 ≡ s) × (q.1 ≡ j)) ⊎ Pairs qs s j
        → (first_waited lanes qs ≡ None → Pairs qs s j → is_passed (slice_get lanes s) j ≡ true) → is_passed (slice_get lanes s) j ≡ true
    by true is none (inl same) rest = subst (λ t. is_passed (slice_get lanes t) j ≡ true) same.0 (subst (λ t. is_passed (slice_get lanes q.0) t ≡ true) same.1 is)
    by true is none (inr p) rest = rest none p
    by false is none p rest = cc

abbrev of_wait : Readiness → Bool
of_wait is.Ready = true
of_wait (is.Waits s ic) = false
of_wait is.Done = false

none_waited : (o : Option (ℕ × ℕ)) → waits_for o ≡ is.Ready → o ≡ None
none_waited None e = refl
none_waited (Some p) e = let f : false ≡ true = ap of_wait e in absurd cc

module _ (records : List Record) (lanes : List Lane) (h : ℕ) where
  ready_waits : (c : Option Coming) (q : Option ℕ) (k : ℕ)
      → elim c as (λ x. Readiness) [ None ↦ is.Done | Some d ↦ elim q as (λ x. Readiness) [ None ↦ is.Ready | Some ic ↦ waits_for (first_waited lanes (sources_into records h ic)) ] ] ≡ is.Ready
      → q ≡ Some k → first_waited lanes (sources_into records h k) ≡ None
  ready_waits None q k e f = let g : false ≡ true = ap of_wait e in absurd cc
  ready_waits (Some d) None k e f = cc
  ready_waits (Some d) (Some ic) k e f =
      let same : ic ≡ k = some_is ic k (Some ic) refl f in
      subst (λ n. first_waited lanes (sources_into records h n) ≡ None) same (none_waited (first_waited lanes (sources_into records h ic)) e)

  pub sources_passed : (lane : Lane) → readiness_of records lanes h lane ≡ is.Ready → (k s j : ℕ) → point_of lane ≡ Some k → HasEdge records h k s j → is_passed (slice_get lanes s) j ≡ true
  sources_passed lane e k s j point edge = not_waited lanes (sources_into records h k) s j (ready_waits (coming_of lane) (point_of lane) k e point) (in_sources records h k s j edge)

-- ---- all harts after a step of one

module _ (now : Joining) (h : ℕ) (sound : IsSound now) (lane : Lane) (at : slice_get now.lanes h ≡ Some lane) (ready : readiness_of now.records now.lanes h lane ≡ is.Ready)
    (next : Lane) (item : Item) (passes : Passes now.program lane item next) where
  pub stays : (s j : ℕ) → is_passed (slice_get now.lanes s) j ≡ true → is_passed (slice_get (slice_set now.lanes h next) s) j ≡ true
  stays s j e = elim (eqb_tells h s) [
    | inl same ↦
        let there : slice_get (slice_set now.lanes h next) s ≡ Some next = subst (λ t. slice_get (slice_set now.lanes h next) t ≡ Some next) same.1 (get_same now.lanes h lane next at) in
        let was : slice_get now.lanes s ≡ Some lane = subst (λ t. slice_get now.lanes t ≡ Some lane) same.1 at in
        ap (λ o. is_passed o j) there ∙ passes.stays j (sym (ap (λ o. is_passed o j) was) ∙ e)
    | inr apart ↦ ap (λ o. is_passed o j) (get_other now.lanes h s next apart.1) ∙ e
  ]

  step_closed : (k ic s j : ℕ) (l : Lane) → HasEdge now.records k ic s j → slice_get (slice_set now.lanes h next) k ≡ Some l → is_passed (Some l) ic ≡ true → is_passed (slice_get (slice_set now.lanes h next) s) j ≡ true
  step_closed k ic s j l edge there e = elim (eqb_tells h k) [
    | inl same ↦
        let mine : HasEdge now.records h ic s j = subst (λ t. HasEdge now.records t ic s j) (sym same.1) edge in
        let is : next ≡ l = some_is next l (slice_get (slice_set now.lanes h next) h) (get_same now.lanes h lane next at) (subst (λ t. slice_get (slice_set now.lanes h next) t ≡ Some l) (sym same.1) there) in
        stays s j (elim (passes.one ic (sound.on h ic s j lane mine at) (ap (λ x. is_passed (Some x) ic) is ∙ e)) [
          | inl before ↦ sound.closed h ic s j lane mine at before
          | inr point ↦ sources_passed now.records now.lanes h lane ready ic s j point mine
        ])
    | inr apart ↦ stays s j (sound.closed k ic s j l edge (sym (get_other now.lanes h k next apart.1) ∙ there) e)
  ]

  pub after_sound : IsSound (record now { lanes = slice_set now.lanes h next; memory = memory_after item now.memory })
  after_sound = record {
    lanes = λ k l there. elim (eqb_tells h k) [
      | inl same ↦ subst (IsLane now.program) (some_is next l (slice_get (slice_set now.lanes h next) h) (get_same now.lanes h lane next at) (subst (λ t. slice_get (slice_set now.lanes h next) t ≡ Some l) (sym same.1) there)) passes.lane
      | inr apart ↦ sound.lanes k l (sym (get_other now.lanes h k next apart.1) ∙ there)
    ];
    there = λ k ic s j edge. elim (eqb_tells h k) [
      | inl same ↦ (next, subst (λ t. slice_get (slice_set now.lanes h next) t ≡ Some next) same.1 (get_same now.lanes h lane next at))
      | inr apart ↦ (let l = sound.there k ic s j edge in (l.0, get_other now.lanes h k next apart.1 ∙ l.1))
    ];
    on = λ k ic s j l edge there. elim (eqb_tells h k) [
      | inl same ↦
          subst (λ x. IsOn x ic) (some_is next l (slice_get (slice_set now.lanes h next) h) (get_same now.lanes h lane next at) (subst (λ t. slice_get (slice_set now.lanes h next) t ≡ Some l) (sym same.1) there))
          (passes.on ic (sound.on h ic s j lane (subst (λ t. HasEdge now.records t ic s j) (sym same.1) edge) at))
      | inr apart ↦ sound.on k ic s j l edge (sym (get_other now.lanes h k next apart.1) ∙ there)
    ];
    closed = step_closed;
  }

-- ---- each step

module _ (now : Joining) (h : ℕ) where
  abbrev only_ok : Option (Result (Item × Joining) ReplayError) → Option (Item × Joining)
  only_ok o = elim o [ None ↦ None | Some r ↦ elim r [ Err e ↦ None | Ok x ↦ Some x ] ]

  abbrev if_ready : Readiness → Option (Item × Joining) → Option (Item × Joining)
  if_ready r o = elim r [ is.Ready ↦ o | is.Waits s ic ↦ None | is.Done ↦ None ]

  abbrev unrefused : Option ReplayError → Option (Result (Item × Joining) ReplayError) → Option (Result (Item × Joining) ReplayError)
  unrefused refused o = elim refused [ Some e ↦ Some (Err e) | None ↦ o ]

  module _ (sound : IsSound now) (lane : Lane) (at : slice_get now.lanes h ≡ Some lane) (ready : readiness_of now.records now.lanes h lane ≡ is.Ready) where
    by_step : (o : Option (Result (Item × Lane) ReplayError)) → PassesIf now.program lane o → SoundIf (only_ok (move now h o))
    by_step None p = tt
    by_step (Some (Err e)) p = tt
    by_step (Some (Ok x)) p = after_sound now h sound lane at ready x.1 x.0 p

    by_refusal : (refused : Option ReplayError) (o : Option (Result (Item × Lane) ReplayError)) → PassesIf now.program lane o → SoundIf (only_ok (unrefused refused (move now h o)))
    by_refusal (Some e) o p = tt
    by_refusal None o p = by_step o p

  by_ready : StepsPass → IsSound now → (lane : Lane) → slice_get now.lanes h ≡ Some lane → (r : Readiness) → readiness_of now.records now.lanes h lane ≡ r
      → SoundIf (if_ready r (only_ok (unrefused now.refused (move now h (lane_step now.program lane)))))
  by_ready pass sound lane at is.Ready e = by_refusal sound lane at e now.refused (lane_step now.program lane) (pass now.program lane (sound.lanes h lane at))
  by_ready pass sound lane at (is.Waits s ic) e = tt
  by_ready pass sound lane at is.Done e = tt

  by_lane : StepsPass → IsSound now → (o : Option Lane) → slice_get now.lanes h ≡ o
      → SoundIf (if_ready (elim o as (λ x. Readiness) [ None ↦ is.Done | Some lane ↦ readiness_of now.records now.lanes h lane ])
      (only_ok (unrefused now.refused (elim o as (λ x. Option (Result (Item × Joining) ReplayError)) [ None ↦ None | Some lane ↦ move now h (lane_step now.program lane) ]))))
  by_lane pass sound None e = tt
  by_lane pass sound (Some lane) e = by_ready pass sound lane e (readiness_of now.records now.lanes h lane) refl

pub soundness_stays : StepsPass → SoundnessStays
soundness_stays pass now h sound = by_lane now h pass sound (slice_get now.lanes h) refl
