-- The points of the joint replay and the recorded points.
use Rattle.report_laws.proofs.Common.{◌≡◌, inl, inr, ℕ, ◌<◌, true, refl, sym, ap, ◌∙◌, subst, arith, List, [], ◌∷◌, Any, slice_get, Option, Some, None, Fault, Row, HartState, LoadedProgramsAreImages, Record, IsInOrder, StandByCounts, In, Point, Access, MeetAt, IsConflict, start, legal_from, RowsAreCounted, HasOrder, OfLists, PointsAreOfTurns, RunRowsTellWords, RunCallsAccess, TurnRowsAreRows, IsRowOfTurn, Taken, run_all, Doing, Touched as Touch, AreAlike, Accessing, touch_of, or_else, word_with, is_atomic, loaded_touch, accesses_of, whole_point, SaysTheRun, JointReplaysSayTheRun, DoesRetained, Recording, IsLogOf, OfBeginnings, begin, points_of, retained_rows, DidPoint, replayed_points, PointsAreRecorded, StandAsRecorded, ConflictsStandAsRecorded, IsPointOf, kept_at, recorded_points, some_is}
use Rattle.race_log.specs.Netzer.{AtPlaces}
use Rattle.joint_replay.specs.Chains.{Did}
use Rattle.joint_replay.specs.Ways.{IsRowAt}
use Rattle.report_laws.proofs.Lists.{order_of, ComesFrom, ComeFrom, comes_from, come_from, given}
use Rattle.report_laws.proofs.Recorded.{one_kept, at_row, kept_point, IsKept, is_kept_row, given_point, same_place}
use Rattle.report_laws.proofs.Rows.{row_at, hart_below, IsRowAt as IsAtCount}
use Rattle.report_laws.proofs.Steps.{IsStepOf, AreSteps, IsRowStep, step_of, steps_of, place_of, in_rows, from_rows}
use Rattle.report_laws.proofs.Touching.{row_is_recorded}

abbrev taken_of : Recording → List Record → List Taken
taken_of r records = (run_all (begin r records)).walk.taken

-- the row of a step is one of the run
pub of_turn : (r : Recording) (records : List Record) → SaysTheRun r records (run_all (begin r records)) → (x : ℕ) (p : Accessing) (s : IsStepOf (taken_of r records) x p)
    → IsRowOfTurn r.settings r.program r.input r.turns p.hart s.point.before p.row
of_turn r records says x p s =
    subst (λ (h : ℕ). IsRowOfTurn r.settings r.program r.input r.turns h s.point.before p.row) s.point.hart (says.states x s.step s.point.before p.row s.at s.point.is)

pub points_are_recorded : LoadedProgramsAreImages → RunRowsTellWords → RunCallsAccess → JointReplaysSayTheRun → PointsAreRecorded
points_are_recorded images tell calls joint r records log m p e =
    let says = joint r records log in
    let s = step_of (taken_of r records) m p e in
    row_is_recorded images tell calls r log.recording p.hart s.1.point.before p.row (of_turn r records says s.0 p s.1) p.touch s.1.point.touch

no_fault : (before : HartState) (row : Row) (t : Touch) → touch_of before row ≡ Some t → row.fault ≡ None
no_fault before row t e = by row.fault refl e
  where
    by : (o : Option (Fault × ℕ)) → row.fault ≡ o → elim o as (λ y. Option Touch) [ Some f ↦ None | None ↦ or_else (word_with row.store true (is_atomic row)) (loaded_touch before row) ] ≡ Some t → row.fault ≡ None
    by None f g = f
    by (Some x) f g = absurd cc

did_step : (ts : List Taken) (x : ℕ) (p : Accessing) → IsStepOf ts x p → Did ts x p.hart p.row.ic
did_step ts x p s = record {
  step = s.step;
  at = s.at;
  hart_is = s.point.hart;
  row = subst (IsRowAt p.row.ic) (sym s.point.is) (refl, no_fault s.point.before p.row p.touch s.point.touch);
}

did_point : (ts : List Taken) (x : ℕ) (p : Accessing) (q : Point) → q.hart ≡ p.hart → q.count ≡ p.row.ic → IsStepOf ts x p → DidPoint ts x q
did_point ts x p q hart count s = subst (λ (h : ℕ). Did ts x h q.count) (sym hart) (subst (λ (k : ℕ). Did ts x p.hart k) (sym count) (did_step ts x p s))

-- points that conflict meet in the run
meet_in_run : (word m n : ℕ) (p q : Accessing) (a b : Point) → a.accesses ≡ accesses_of p.touch → b.accesses ≡ accesses_of q.touch → MeetAt word (whole_point m p) (whole_point n q) → MeetAt word b a
meet_in_run word m n p q a b e f c = record {
  first = subst (Any (λ (x : Access). x.word ≡ word)) (sym f) c.second;
  second = subst (Any (λ (x : Access). x.word ≡ word)) (sym e) c.first;
  written = elim c.written [
    | inl w ↦ inr (subst (Any (λ (x : Access). (x.word ≡ word) × (x.writes ≡ true))) (sym e) w)
    | inr w ↦ inl (subst (Any (λ (x : Access). (x.word ≡ word) × (x.writes ≡ true))) (sym f) w)
  ];
}

-- what all of it stands on
pub record Known : Type 0 where
  pub points : PointsAreRecorded
  pub joint : JointReplaysSayTheRun
  pub retained : OfBeginnings DoesRetained
  pub order : OfLists HasOrder
  pub stand : StandByCounts
  pub of_turns : PointsAreOfTurns
  pub rows : TurnRowsAreRows
  pub counted : RowsAreCounted

module _ (known : Known) (r : Recording) (records : List Record) (log : IsLogOf r records) where
  says : SaysTheRun r records (run_all (begin r records))
  says = known.joint r records log

  in_order : IsInOrder (points_of r)
  in_order = known.order r.settings r.program r.input r.turns log.recording.setting log.recording.legal

  abbrev taken : List Taken
  taken = taken_of r records

  below : (place : ℕ) (q : Point) → slice_get (points_of r) place ≡ Some q → q.hart < r.settings.harts
  below place q at =
      let x = known.of_turns r.settings r.program r.input r.turns place q log.recording.setting log.recording.legal at in
      hart_below r.settings r.program (start r.settings r.program r.input) x.front q.hart x.back (subst (λ (b : List ℕ). legal_from r.settings r.program (start r.settings r.program r.input) b ≡ true) x.turns log.recording.legal)

  -- the recorded points have those of the joint replay
  gives_point : (x : ℕ) (p : Accessing) → IsStepOf taken x p → (place : ℕ) (i : IsPointOf r p place) → kept_at r records i.point ≡ p ∷ []
  gives_point x p s place i =
      let low : p.hart < r.settings.harts = subst (λ (h : ℕ). h < r.settings.harts) i.hart (below place i.point i.at) in
      let row : In (retained_rows r records p.hart) p.row = subst (λ (rows : List Row). In rows p.row) (says.rows p.hart low) (in_rows taken x p s) in
      kept_point r records i.point p s.point.before i.hart i.count row (row_at known.rows known.counted r log.recording p.hart s.point.before p.row (of_turn r records says x p s)) s.point.touch

  there : (m : ℕ) (p : Accessing) → slice_get (replayed_points r records) m ≡ Some p → (j : ℕ) × (slice_get (recorded_points r records) j ≡ Some p)
  unfolding recorded_points
  there m p e =
      let s = step_of taken m p e in
      let i = known.points r records log m p e in
      given (kept_at r records) (points_of r) i.0 p (record { source = i.1.point; at = i.1.at; gives = gives_point s.0 p s.1 i.0 i.1 })

  -- and only those
  record IsFrom (q : Point) (p : Accessing) : Type 0 where
    pub place : ℕ
    pub step : IsStepOf taken place p
    pub hart : q.hart ≡ p.hart
    pub count : q.count ≡ p.row.ic

  from_kept : (place : ℕ) (q : Point) (p : Accessing) → slice_get (points_of r) place ≡ Some q → kept_at r records q ≡ p ∷ [] → IsFrom q p
  from_kept place q p at e =
      let k : IsKept r records q p = is_kept_row r records q p e in
      let s : IsRowStep taken q.hart k.row = from_rows taken q.hart k.row (subst (λ (rows : List Row). In rows k.row) (sym (says.rows q.hart (below place q at))) k.row_in) in
      let turn : IsRowOfTurn r.settings r.program r.input r.turns q.hart s.before k.row =
      subst (λ (h : ℕ). IsRowOfTurn r.settings r.program r.input r.turns h s.before k.row) s.hart (says.states s.place s.step s.before k.row s.at s.is) in
      let here : IsAtCount r q.hart s.before k.row = row_at known.rows known.counted r log.recording q.hart s.before k.row turn in
      let g = given_point q.hart k.row (touch_of s.before k.row) p (sym (at_row r records q.hart s.before k.row here) ∙ k.gives) in
      record {
        place = s.place;
        step = record {
          step = s.step;
          at = s.at;
          point = record { hart = s.hart ∙ g.1; before = s.before; is = s.is ∙ ap (Doing s.before) g.2; touch = subst (λ (z : Row). touch_of s.before z ≡ Some p.touch) g.2 g.0 };
        };
        hart = g.1;
        count = sym k.count ∙ ap (λ (z : Row). z.ic) g.2;
      }

  back : (j : ℕ) (p : Accessing) → slice_get (recorded_points r records) j ≡ Some p → (m : ℕ) × (slice_get (replayed_points r records) m ≡ Some p)
  unfolding recorded_points
  back j p e =
      let c = comes_from (kept_at r records) (one_kept r records) (points_of r) j p e in
      let f = from_kept c.0 c.1.source p c.1.at c.1.gives in
      place_of taken f.place p f.step

  -- the recorded points stand at their places in the run
  own_place : (p : Accessing) (place : ℕ) → IsPointOf r p place → (other : ℕ) → ComesFrom (kept_at r records) (points_of r) p other → other ≡ place
  own_place p place i other c =
      let f = from_kept other c.source p c.at c.gives in
      same_place known.stand (points_of r) in_order other place c.source i.point c.at i.at (f.hart ∙ sym i.hart) (f.count ∙ sym i.count)

  stands : (m n : ℕ) (p q : Accessing) → slice_get (recorded_points r records) m ≡ Some p → slice_get (recorded_points r records) n ≡ Some q → m < n → (i j : ℕ) → IsPointOf r p i → IsPointOf r q j → i < j
  unfolding recorded_points
  stands m n p q at to low i j x y =
      let c : ComeFrom (kept_at r records) (points_of r) p q = come_from (kept_at r records) (one_kept r records) (points_of r) m n p q at to low in
      let a = own_place p i x c.first c.first_from in
      let b = own_place q j y c.second c.second_from in
      let up = c.earlier in
      omega (arith, a, b, up)

  -- points that conflict stand in the joint replay as in the run
  in_run : (m n : ℕ) (p q : Accessing) → slice_get (replayed_points r records) m ≡ Some p → slice_get (replayed_points r records) n ≡ Some q → IsConflict (whole_point m p) (whole_point n q) → m < n
      → (i j : ℕ) → IsPointOf r p i → IsPointOf r q j → i < j
  in_run m n p q at to c low i j x y = elim (order_of i j) [
    | inl up ↦ up
    | inr (inl same) ↦ (let point : x.point ≡ y.point = some_is x.point y.point (slice_get (points_of r) j) (subst (λ (k : ℕ). slice_get (points_of r) k ≡ Some x.point) same x.at) y.at in
        absurd (c.apart (sym x.hart ∙ (ap (λ (z : Point). z.hart) point ∙ y.hart))))
    | inr (inr down) ↦ (let s : AreSteps taken p q = steps_of taken m n p q at to low in
        let did_p = did_point taken s.first p x.point x.hart x.count s.first_is in
        let did_q = did_point taken s.second q y.point y.hart y.count s.second_is in
        let retained = known.retained r records says.order (run_all (begin r records)).walk log says.allowed.begun in
        let both : AtPlaces (MeetAt c.word) (points_of r) j i = record { earlier = down; first = y.point; second = x.point; first_at = y.at; second_at = x.at; related = meet_in_run c.word m n p q x.point y.point x.accesses y.accesses c.meet } in
        let d = says.keeps.order c.word j i both (retained s.second y.point.hart y.point.count did_q) (retained s.first x.point.hart x.point.count did_p) in
        let a = says.keeps.once d.0 s.second y.point.hart y.point.count d.2 did_q in
        let b = says.keeps.once d.1 s.first x.point.hart x.point.count d.3 did_p in
        let up = s.earlier in
        let over = d.4 in
        absurd (omega (arith, a, b, up, over)))
  ]

  pub alike : AreAlike (replayed_points r records) (recorded_points r records)
  alike = record {
    there = there;
    back = back;
    order = λ m n j k p q at to here then_at c low.
        (let x = known.points r records log m p at in
        let y = known.points r records log n q to in
        let run = in_run m n p q at to c low x.0 y.0 x.1 y.1 in
        elim (order_of j k) [
          | inl up ↦ up
          | inr (inl same) ↦ absurd (c.apart (ap (λ (z : Accessing). z.hart) (some_is p q (slice_get (recorded_points r records) k) (subst (λ (l : ℕ). slice_get (recorded_points r records) l ≡ Some p) same here) then_at)))
          | inr (inr down) ↦ (let other = stands k j q p then_at here down y.0 x.0 y.1 x.1 in absurd (omega (arith, run, other)))
        ]);
  }

  pub stand_so : (m n : ℕ) (p q : Accessing) → slice_get (recorded_points r records) m ≡ Some p → slice_get (recorded_points r records) n ≡ Some q → m < n → (i : ℕ) × (j : ℕ) × IsPointOf r p i × IsPointOf r q j × (i < j)
  stand_so m n p q at to low =
      let a = back m p at in
      let b = back n q to in
      let x = known.points r records log a.0 p a.1 in
      let y = known.points r records log b.0 q b.1 in
      (x.0, y.0, x.1, y.1, stands m n p q at to low x.0 y.0 x.1 y.1)

pub stand_as_recorded : Known → StandAsRecorded
stand_as_recorded known r records log m n p q at to low = stand_so known r records log m n p q at to low

pub conflicts_stand_as_recorded : Known → ConflictsStandAsRecorded
conflicts_stand_as_recorded known r records log = alike known r records log
