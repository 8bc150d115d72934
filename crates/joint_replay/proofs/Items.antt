-- What a step of a hart takes from the hart's list of items.
use Rattle.joint_replay.proofs.Common.{◌≡◌, ℕ, ◌+◌, ◌≤◌, Bool, true, false, inl, inr, refl, sym, ap, ◌∙◌, arith, List, [], ◌∷◌, ◌++◌, map, Option, Some, None, Result, Ok, Err, ◌↔◌, is_some, Program, EndMark, Row, HartState, Record, ReplayError, Outcome, Done, Refused, Interval, interval_of, replayed, Coming, PassAt, RowAt, EndAt, Cursor, Lane, Item, Passing, Doing, Ending, with_cursor, cursors_of, coming_of, point_of, has_row, is_within, lane_step, cursor_step, is_passed, RowsFrom, AreFrom, AreCursors, ArePoints, IsLane, rows_then, interval_then, intervals_items, outcome_done, AreUnrefused, IsAt, cases_lt, lt-ltb, ltb-true, none-some}
use Rattle.joint_replay.proofs.LaneSteps.{cursor_passed, first_goes, passed_with, next_cursor, next_goes}
use Rattle.joint_replay.proofs.Soundness.{some_is}

-- ---- the items that a hart has left

abbrev pub cursors_items : Program → List Cursor → List Item
cursors_items i [] = []
cursors_items i (c ∷ cs) = rows_then i c.number c.mark c.left.outcome c.state c.left.rows (cursors_items i cs)

abbrev pub lane_items : Program → Lane → List Item
lane_items i lane = map (λ (p : ℕ). Passing p) lane.points ++ cursors_items i lane.cursors

-- before its first step these are the items of its list
pub first_items : (i : Program) (records : List Record) (h : ℕ) (ns : List ℕ) → cursors_items i (cursors_of i records h ns) ≡ intervals_items i records h ns
first_items i records h [] = refl
first_items i records h (n ∷ ns) = by (interval_of h n records) (first_items i records h ns)
  where
    by : (o : Option Interval) → cursors_items i (cursors_of i records h ns) ≡ intervals_items i records h ns
        → cursors_items i (with_cursor o n (replayed i records h n) (cursors_of i records h ns)) ≡ interval_then i o n (replayed i records h n) (intervals_items i records h ns)
    by None rest = rest
    by (Some v) rest = ap (λ (later : List Item). rows_then i n v.mark (replayed i records h n).outcome v.start (replayed i records h n).rows later) rest

-- no replay of what a hart has left is refused
abbrev pub AreDone : List Cursor → Type 0
AreDone [] = Unit {0}
AreDone (c ∷ cs) = (c.left.outcome ≡ Done) × AreDone cs

pub first_done : (i : Program) (records : List Record) (h : ℕ) (ns : List ℕ) → AreDone (cursors_of i records h ns) ↔ AreUnrefused i records h ns
first_done i records h [] = (λ u. u, λ u. u)
first_done i records h (n ∷ ns) = by (interval_of h n records) (first_done i records h ns)
  where
    by : (o : Option Interval) → AreDone (cursors_of i records h ns) ↔ AreUnrefused i records h ns
        → AreDone (with_cursor o n (replayed i records h n) (cursors_of i records h ns)) ↔ (outcome_done o (replayed i records h n) × AreUnrefused i records h ns)
    by None rest = (λ u. (tt, rest.0 u), λ u. rest.1 u.1)
    by (Some v) rest = (λ u. (u.0, rest.0 u.1), λ u. (u.0, rest.1 u.1))

-- ---- a step takes the first of them

pub record Tells (i : Program) (lane : Lane) (item : Item) (next : Lane) : Type 0 where
  pub items : lane_items i lane ≡ item ∷ lane_items i next
  pub point : (k : ℕ) → point_of lane ≡ Some k → IsAt k item
  pub at : (k : ℕ) → IsAt k item → point_of lane ≡ Some k
  pub passed : (k : ℕ) → IsAt k item → is_passed (Some next) k ≡ true
  pub done : AreDone lane.cursors ↔ AreDone next.cursors

abbrev pub TellsIf : Program → Lane → Option (Result (Item × Lane) ReplayError) → Type 0
TellsIf i lane None = lane_items i lane ≡ []
TellsIf i lane (Some (Err e)) = lane_items i lane ≡ []
TellsIf i lane (Some (Ok x)) = Tells i lane x.0 x.1

module _ (i : Program) where
  passing : (p : ℕ) (ps : List ℕ) (cs : List Cursor) → ArePoints (p ∷ ps) cs → AreCursors i cs → Tells i (record { points = p ∷ ps; cursors = cs }) (Passing p) (record { points = ps; cursors = cs })
  passing p ps cs a s = record {
    items = refl;
    point = λ k e. some_is p k (Some p) refl e;
    at = λ k e. ap (λ (n : ℕ). Some n) e;
    passed = λ k e. passed_with i p ps cs k a s (omega (arith, e));
    done = (λ u. u, λ u. u);
  }

  doing : (c : Cursor) (cs : List Cursor) (r : Row) (rs : List Row) → c.left.rows ≡ r ∷ rs → RowsFrom i c.mark.ic c.left.outcome c.state (r ∷ rs) → AreFrom i c cs
      → Tells i (record { points = []; cursors = c ∷ cs }) (Doing c.state r) (record { points = []; cursors = next_cursor i c r rs ∷ cs })
  doing c cs r rs is g a =
      let low = (first_goes i c cs a).0 in
      let goes = next_goes i c r rs low g in
      record {
        items = ap (λ (rows : List Row). rows_then i c.number c.mark c.left.outcome c.state rows (cursors_items i cs)) is;
        point = by_within (is_within c) refl;
        at = λ k h. elim (cases_lt c.state.ic c.mark.ic) [
          | inl less ↦ ap (λ (b : Bool). elim b as (λ y. Option ℕ) [ true ↦ Some c.state.ic | false ↦ None ]) (lt-ltb c.state.ic c.mark.ic less) ∙ ap (λ (m : ℕ). Some m) (sym g.0 ∙ h.0)
          | inr past ↦ absurd (faults past h.1)
        ];
        passed = λ k h. elim (cases_lt c.state.ic c.mark.ic) [
          | inl less ↦
              let up : (next_cursor i c r rs).state.ic ≡ c.state.ic + 1 = (g.1 less).1 in
              let e = g.0 in
              let f = h.0 in
              cursor_passed i (next_cursor i c r rs) cs k goes.0 ∙ lt-ltb k (next_cursor i c r rs).state.ic (omega (arith, up, e, f))
          | inr past ↦ absurd (faults past h.1)
        ];
        done = (λ u. u, λ u. u);
      }
    where
      faults : c.mark.ic ≤ c.state.ic → r.fault ≡ None → ⊥
      faults past none = let f : is_some r.fault ≡ true = (g.2 past).0 in let e : is_some r.fault ≡ false = ap is_some none in let both : false ≡ true = sym e ∙ f in cc

      by_within : (b : Bool) → is_within c ≡ b → (k : ℕ) → elim b as (λ y. Option ℕ) [ true ↦ Some c.state.ic | false ↦ None ] ≡ Some k → (r.ic ≡ k) × (r.fault ≡ None)
      by_within true w k e = (g.0 ∙ some_is c.state.ic k (Some c.state.ic) refl e, (g.1 (ltb-true c.state.ic c.mark.ic w)).0)
      by_within false w k e = absurd (none-some k e)

  ending : (c : Cursor) (cs : List Cursor) → c.left.rows ≡ [] → c.left.outcome ≡ Done → c.mark.ic ≤ c.state.ic
      → Tells i (record { points = []; cursors = c ∷ cs }) (Ending c.number c.mark) (record { points = []; cursors = cs })
  ending c cs rows outcome past = record {
    items = ap (λ (rows : List Row). rows_then i c.number c.mark c.left.outcome c.state rows (cursors_items i cs)) rows
        ∙ ap (λ (o : Outcome). rows_then i c.number c.mark o c.state [] (cursors_items i cs)) outcome;
    point = by_within (is_within c) refl;
    at = λ k h. absurd h;
    passed = λ k h. absurd h;
    done = (λ u. u.1, λ u. (outcome, u));
  }
    where
      by_within : (b : Bool) → is_within c ≡ b → (k : ℕ) → elim b as (λ y. Option ℕ) [ true ↦ Some c.state.ic | false ↦ None ] ≡ Some k → ⊥
      by_within true w k e = let less = ltb-true c.state.ic c.mark.ic w in omega (arith, less, past)
      by_within false w k e = none-some k e

  by_left : (number : ℕ) (mark : EndMark) (state : HartState) (rows : List Row) (o : Outcome) (faulted : Bool) (cs : List Cursor)
      → let c : Cursor = record { number = number; mark = mark; state = state; left = record { rows = rows; outcome = o }; faulted = faulted } in
      AreFrom i c cs → TellsIf i (record { points = []; cursors = c ∷ cs }) (Some (cursor_step i c cs))
  by_left number mark state (r ∷ rs) o faulted cs a =
      let c : Cursor = record { number = number; mark = mark; state = state; left = record { rows = r ∷ rs; outcome = o }; faulted = faulted } in doing c cs r rs refl (first_goes i c cs a).1 a
  by_left number mark state [] Done faulted cs a =
      let c : Cursor = record { number = number; mark = mark; state = state; left = record { rows = []; outcome = Done }; faulted = faulted } in ending c cs refl refl ((first_goes i c cs a).1 refl)
  by_left number mark state [] (Refused e) faulted cs a = refl

  by_lane : (points : List ℕ) (cursors : List Cursor) → ArePoints points cursors → AreCursors i cursors → TellsIf i (record { points = points; cursors = cursors }) (lane_step i (record { points = points; cursors = cursors }))
  by_lane (p ∷ ps) cs a s = passing p ps cs a s
  by_lane [] [] a s = refl
  by_lane [] (c ∷ cs) a s = by_left c.number c.mark c.state c.left.rows c.left.outcome c.faulted cs s

pub tells : (i : Program) (lane : Lane) → IsLane i lane → TellsIf i lane (lane_step i lane)
tells i lane l = by_lane i lane.points lane.cursors l.points l.cursors

-- ---- a step and what comes

-- a hart with a step has something to come
pub step_comes : (i : Program) (lane : Lane) (r : Result (Item × Lane) ReplayError) → lane_step i lane ≡ Some r → (c : Coming) × (coming_of lane ≡ Some c)
step_comes i lane r e = by lane.points lane.cursors e
  where
    by : (points : List ℕ) (cursors : List Cursor) → lane_step i (record { points = points; cursors = cursors }) ≡ Some r → (c : Coming) × (coming_of (record { points = points; cursors = cursors }) ≡ Some c)
    by (p ∷ ps) cs e = (PassAt p, refl)
    by [] [] e = cc
    by [] (c ∷ cs) e = row (has_row c)
      where
        row : (b : Bool) → (d : Coming) × (elim b as (λ y. Option Coming) [ true ↦ Some (RowAt c.state.ic) | false ↦ Some (EndAt c.mark.ic) ] ≡ Some d)
        row true = (RowAt c.state.ic, refl)
        row false = (EndAt c.mark.ic, refl)

-- and one with something to come has a step
pub comes_step : (i : Program) (lane : Lane) (c : Coming) → coming_of lane ≡ Some c → (r : Result (Item × Lane) ReplayError) × (lane_step i lane ≡ Some r)
comes_step i lane c e = by lane.points lane.cursors e
  where
    by : (points : List ℕ) (cursors : List Cursor) → coming_of (record { points = points; cursors = cursors }) ≡ Some c → (r : Result (Item × Lane) ReplayError) × (lane_step i (record { points = points; cursors = cursors }) ≡ Some r)
    by (p ∷ ps) cs e = (Ok (Passing p, record { points = ps; cursors = cs }), refl)
    by [] [] e = cc
    by [] (d ∷ cs) e = (cursor_step i d cs, refl)

-- a hart with nothing to come has no item left, and no replay that is refused
pub nothing_left : (i : Program) (lane : Lane) → coming_of lane ≡ None → (lane_items i lane ≡ []) × AreDone lane.cursors
nothing_left i lane e = by lane.points lane.cursors e
  where
    some_none : (c : Coming) → ◌≡◌ {A = Option Coming} (Some c) None → ⊥
    some_none c e = cc

    row : (b : Bool) (c : Cursor) → elim b as (λ y. Option Coming) [ true ↦ Some (RowAt c.state.ic) | false ↦ Some (EndAt c.mark.ic) ] ≡ None → ⊥
    row true c e = some_none (RowAt c.state.ic) e
    row false c e = some_none (EndAt c.mark.ic) e

    by : (points : List ℕ) (cursors : List Cursor) → coming_of (record { points = points; cursors = cursors }) ≡ None → (lane_items i (record { points = points; cursors = cursors }) ≡ []) × AreDone cursors
    by (p ∷ ps) cs e = absurd (some_none (PassAt p) e)
    by [] [] e = (refl, tt)
    by [] (c ∷ cs) e = absurd (row (has_row c) c e)

-- and one with no item left and no such replay has nothing to come
pub nothing_comes : (i : Program) (lane : Lane) → lane_items i lane ≡ [] → AreDone lane.cursors → coming_of lane ≡ None
nothing_comes i lane e d = by lane.points lane.cursors e d
  where
    some_item : (x : Item) (xs : List Item) → ◌≡◌ {A = List Item} (x ∷ xs) [] → ⊥
    some_item x xs e = cc

    row : (number : ℕ) (mark : EndMark) (state : HartState) (o : Outcome) (rows : List Row) (later : List Item) → o ≡ Done → rows_then i number mark o state rows later ≡ [] → ⊥
    row number mark state o (r ∷ rs) later d e = some_item _ _ e
    row number mark state Done [] later d e = some_item _ _ e
    row number mark state (Refused g) [] later d e = cc

    by : (points : List ℕ) (cursors : List Cursor) → lane_items i (record { points = points; cursors = cursors }) ≡ [] → AreDone cursors → coming_of (record { points = points; cursors = cursors }) ≡ None
    by (p ∷ ps) cs e d = absurd (some_item _ _ e)
    by [] [] e d = refl
    by [] (c ∷ cs) e d = absurd (row c.number c.mark c.state c.left.outcome c.left.rows (cursors_items i cs) d.0 e)

-- a point comes
pub point_comes : (lane : Lane) (k : ℕ) → point_of lane ≡ Some k → (c : Coming) × (coming_of lane ≡ Some c)
point_comes lane k e = by lane.points lane.cursors e
  where
    row : (b : Bool) (c : Cursor) → (d : Coming) × (elim b as (λ y. Option Coming) [ true ↦ Some (RowAt c.state.ic) | false ↦ Some (EndAt c.mark.ic) ] ≡ Some d)
    row true c = (RowAt c.state.ic, refl)
    row false c = (EndAt c.mark.ic, refl)

    by : (points : List ℕ) (cursors : List Cursor) → point_of (record { points = points; cursors = cursors }) ≡ Some k → (c : Coming) × (coming_of (record { points = points; cursors = cursors }) ≡ Some c)
    by (p ∷ ps) cs e = (PassAt p, refl)
    by [] [] e = absurd (none-some k e)
    by [] (c ∷ cs) e = row (has_row c) c
