-- Each hart's points come by their counts.
use Rattle.race_report.proofs.Common.{◌≡◌, ◌⊎◌, inl, inr, ℕ, zero, suc, ◌+◌, ◌<◌, ◌≤◌, ◌==◌, nat_lt, Bool, true, false, not, is_some, ◌&&◌, ◌||◌, refl, sym, ap, ◌∙◌, subst, arith, List, [], ◌∷◌, ◌++◌, length, slice_get, slice_set, Option, Some, None, Result, Ok, Err, append-nil, Program, EndMark, Row, HartState, ReplayError, Outcome, Done, Refused, Record, Stuck, Next, Hart, AllDone, NoneReady, Cursor, Lane, Item, Passing, Doing, Ending, row_given, lane_step, cursor_step, has_row, memory_after, Joining, Taken, Walk, Ran, ran, fresh, lanes_from, choice, is_passed, move, next_step, error_of, positions_from, steps_left, run_for, RunsByStep, Touch, Accessing, accessing, touch_of, point_in, points_of, or_else, word_with, is_atomic, loaded_touch, AreCounted, PointsAreCounted, eqb-true, lt-ltb, ltb-false, ltb-true, same_Some, slice_get_within, eqb-false}
use Rattle.bn_base.specs.declared.fault.Fault.{Fault}
use Rattle.hart_replay.specs.Coming.{after_row}
use Rattle.joint_replay.specs.declared.kinds.Coming.{Coming}
use Rattle.joint_replay.specs.declared.kinds.Coming.TheVariants.{RowAt, EndAt}
use Rattle.joint_replay.specs.declared.kinds.Readiness.{Readiness}
use Rattle.joint_replay.specs.declared.kinds.Readiness.TheVariants as is
use Rattle.joint_replay.specs.Lanes.{count_of}
use Rattle.joint_replay.specs.Orders.{ready_step}
use Rattle.joint_replay.specs.Counts.{RowsFrom}
use Rattle.joint_replay.specs.Ways.{GoesOn, AreFrom, IsLane, Passes, PassesIf}
use Rattle.joint_replay.specs.Sound.{IsSound, SoundIf}
use Rattle.joint_replay.specs.Laws.{StepsPass, StartsAreSound, SoundnessStays}
use Rattle.joint_replay.proofs.Soundness.{get_same, get_other}
use Rattle.joint_replay.proofs.Merging.{get_last}

-- ---- the row of a point has no fault

no_fault : (before : HartState) (row : Row) (t : Touch) → touch_of before row ≡ Some t → row.fault ≡ None
no_fault before row t e = by row.fault refl e
  where
    by : (o : Option (Fault × ℕ)) → row.fault ≡ o → elim o as (λ y. Option Touch) [ Some f ↦ None | None ↦ or_else (word_with row.store true (is_atomic row)) (loaded_touch before row) ] ≡ Some t → row.fault ≡ None
    by None f g = f
    by (Some x) f g = absurd cc

-- ---- the step of a hart that did it

-- it was at that count, which is passed then
record IsDone (lane next : Lane) (row : Row) : Type 0 where
  pub was : (k : ℕ) → is_passed (Some lane) k ≡ true → k < row.ic
  pub over : is_passed (Some next) row.ic ≡ true

no_some : (o : Option (Fault × ℕ)) → o ≡ None → is_some o ≡ true → ⊥
no_some None e f = cc
no_some (Some x) e f = cc

-- the cursor under way once the row is given
after_count : (i : Program) (c : Cursor) (row : Row) (rs : List Row) (cs : List Cursor) → (after_row i c.state row).ic ≡ row.ic + 1 → row.ic < c.mark.ic → is_passed (Some (record { points = []; cursors = row_given i c row rs ∷ cs })) row.ic ≡ true
after_count i c row rs cs e low = by (has_row (row_given i c row rs))
  where
    by : (b : Bool) → elim (elim b as (λ y. Option Coming) [ true ↦ Some (RowAt (after_row i c.state row).ic) | false ↦ Some (EndAt c.mark.ic) ]) as (λ y. Bool) [ None ↦ true | Some d ↦ nat_lt row.ic (count_of d) ] ≡ true
    by true = lt-ltb row.ic (after_row i c.state row).ic (omega (arith, e))
    by false = lt-ltb row.ic c.mark.ic low

-- what comes of the cursor before it
before_count : (c : Cursor) (cs : List Cursor) (k : ℕ) → c.state.ic < c.mark.ic → is_passed (Some (record { points = []; cursors = c ∷ cs })) k ≡ true → k < c.state.ic
before_count c cs k low e =
    ltb-true k c.state.ic (sym (ap (λ (b : Bool). elim (elim (b || (nat_lt 16 c.mark.reason && not c.faulted)) as (λ y. Option Coming) [ true ↦ Some (RowAt c.state.ic) | false ↦ Some (EndAt c.mark.ic) ]) as (λ y. Bool) [ None ↦ true | Some d ↦ nat_lt k (count_of d) ]) (lt-ltb c.state.ic c.mark.ic low)) ∙ e)

first_goes : (i : Program) (c : Cursor) (cs : List Cursor) → AreFrom i c cs → GoesOn i c
first_goes i c [] a = a
first_goes i c (d ∷ ds) a = a.0

same_done : (x y : Item × Lane) → ◌≡◌ {A = Result (Item × Lane) ReplayError} (Ok x) (Ok y) → x ≡ y
same_done x y e = cc

same_row : (a b : HartState) (r s : Row) → Doing a r ≡ Doing b s → r ≡ s
same_row a b r s e = cc

no_doing : (n : ℕ) (m : EndMark) (before : HartState) (row : Row) → ◌≡◌ {A = Item} (Ending n m) (Doing before row) → ⊥
no_doing n m before row e = cc

no_passing : (p : ℕ) (before : HartState) (row : Row) → ◌≡◌ {A = Item} (Passing p) (Doing before row) → ⊥
no_passing p before row e = cc

no_error : (e : ReplayError) (x : Item × Lane) → ◌≡◌ {A = Result (Item × Lane) ReplayError} (Err e) (Ok x) → ⊥
no_error e x f = cc

some_item : (x y : Item × Lane) → ◌≡◌ {A = Option (Result (Item × Lane) ReplayError)} (Some (Ok x)) (Some (Ok y)) → x ≡ y
some_item x y e = cc

cursor_done : (i : Program) (c : Cursor) (cs : List Cursor) (before : HartState) (row : Row) (next : Lane) → row.fault ≡ None → GoesOn i c → cursor_step i c cs ≡ Ok (Doing before row, next) → IsDone (record { points = []; cursors = c ∷ cs }) next row
cursor_done i c cs before row next none goes e = by c.left.rows goes.1 e
  where
    low : (r : Row) (rs : List Row) (b : Bool) → nat_lt c.state.ic c.mark.ic ≡ b → r.fault ≡ None → r.ic ≡ c.state.ic → (c.state.ic < c.mark.ic → (r.fault ≡ None) × ((after_row i c.state r).ic ≡ c.state.ic + 1))
        → (c.mark.ic ≤ c.state.ic → (is_some r.fault ≡ true) × (after_row i c.state r ≡ c.state)) → IsDone (record { points = []; cursors = c ∷ cs }) (record { points = []; cursors = row_given i c r rs ∷ cs }) r
    low r rs true f plain count within past =
        let less = ltb-true c.state.ic c.mark.ic f in
        let up = (within less).1 in
        record {
          was = λ k g. (let under = before_count c cs k less g in omega (arith, under, count));
          over = after_count i c r rs cs (omega (arith, up, count)) (omega (arith, less, count));
        }
    low r rs false f plain count within past = absurd (no_some r.fault plain (past (ltb-false c.state.ic c.mark.ic f)).0)

    done : (r : Row) (rs : List Row) → r ≡ row → ◌≡◌ {A = Lane} (record { points = []; cursors = row_given i c r rs ∷ cs }) next → r.ic ≡ c.state.ic → (c.state.ic < c.mark.ic → (r.fault ≡ None) × ((after_row i c.state r).ic ≡ c.state.ic + 1))
        → (c.mark.ic ≤ c.state.ic → (is_some r.fault ≡ true) × (after_row i c.state r ≡ c.state)) → IsDone (record { points = []; cursors = c ∷ cs }) next row
    done r rs same is count within past =
        subst (λ (l : Lane). IsDone (record { points = []; cursors = c ∷ cs }) l row) is (subst (λ (x : Row). IsDone (record { points = []; cursors = c ∷ cs }) (record { points = []; cursors = row_given i c r rs ∷ cs }) x) same
        (low r rs (nat_lt c.state.ic c.mark.ic) refl (ap (λ (x : Row). x.fault) same ∙ none) count within past))

    by : (rows : List Row) → RowsFrom i c.mark.ic c.left.outcome c.state rows
        → elim rows as (λ y. Result (Item × Lane) ReplayError) [
          | r ∷ rs ↦ Ok (Doing c.state r, record { points = []; cursors = row_given i c r rs ∷ cs })
          | [] ↦ elim c.left.outcome as (λ y. Result (Item × Lane) ReplayError) [ Done ↦ Ok (Ending c.number c.mark, record { points = []; cursors = cs }) | Refused e ↦ Err e ]
        ] ≡ Ok (Doing before row, next) → IsDone (record { points = []; cursors = c ∷ cs }) next row
    by (r ∷ rs) f g =
        let both = same_done (Doing c.state r, record { points = []; cursors = row_given i c r rs ∷ cs }) (Doing before row, next) g in
        done r rs (same_row c.state before r row (ap (λ (x : Item × Lane). x.0) both)) (ap (λ (x : Item × Lane). x.1) both) f.0 f.1 f.2
    by [] f g = absurd (over c.left.outcome g)
      where
        over : (o : Outcome) → elim o as (λ y. Result (Item × Lane) ReplayError) [ Done ↦ Ok (Ending c.number c.mark, record { points = []; cursors = cs }) | Refused e ↦ Err e ] ≡ Ok (Doing before row, next) → ⊥
        over Done h = no_doing c.number c.mark before row (ap (λ (x : Item × Lane). x.0) (same_done (Ending c.number c.mark, record { points = []; cursors = cs }) (Doing before row, next) h))
        over (Refused e) h = no_error e (Doing before row, next) h

lane_done : (i : Program) (points : List ℕ) (cursors : List Cursor) (before : HartState) (row : Row) (next : Lane) → row.fault ≡ None → IsLane i (record { points = points; cursors = cursors })
    → lane_step i (record { points = points; cursors = cursors }) ≡ Some (Ok (Doing before row, next)) → IsDone (record { points = points; cursors = cursors }) next row
lane_done i (p ∷ ps) cursors before row next none lane e = absurd (no_passing p before row (ap (λ (x : Item × Lane). x.0) (some_item (Passing p, record { points = ps; cursors = cursors }) (Doing before row, next) e)))
lane_done i [] [] before row next none lane e = absurd cc
lane_done i [] (c ∷ cs) before row next none lane e = cursor_done i c cs before row next none (first_goes i c cs lane.cursors) (same_Some (cursor_step i c cs) (Ok (Doing before row, next)) e)

-- ---- the step of all

pub record IsLaneStep (j : Joining) (h : ℕ) (x : Item × Joining) : Type 0 where
  pub lane : Lane
  pub next : Lane
  pub at : slice_get j.lanes h ≡ Some lane
  pub step : lane_step j.program lane ≡ Some (Ok (x.0, next))
  pub lanes : x.1.lanes ≡ slice_set j.lanes h next

same_moved : (x y : Item × Joining) → ◌≡◌ {A = Option (Result (Item × Joining) ReplayError)} (Some (Ok x)) (Some (Ok y)) → x ≡ y
same_moved x y e = cc

move_lane : (j : Joining) (h : ℕ) (lane : Lane) (o : Option (Result (Item × Lane) ReplayError)) (x : Item × Joining) → slice_get j.lanes h ≡ Some lane → lane_step j.program lane ≡ o → move j h o ≡ Some (Ok x) → IsLaneStep j h x
move_lane j h lane None x at e f = absurd cc
move_lane j h lane (Some (Err g)) x at e f = absurd cc
move_lane j h lane (Some (Ok y)) x at e f =
    let same = same_moved (y.0, record j { lanes = slice_set j.lanes h y.1; memory = memory_after y.0 j.memory }) x f in
    record { lane = lane; next = y.1; at = at; step = e ∙ ap (λ (i : Item). Some (Ok (i, y.1))) (ap (λ (z : Item × Joining). z.0) same); lanes = ap (λ (z : Item × Joining). z.1.lanes) (sym same) }

pub step_lane : (j : Joining) (h : ℕ) (x : Item × Joining) → next_step j h ≡ Some (Ok x) → IsLaneStep j h x
step_lane j h x e = by j.refused (slice_get j.lanes h) refl e
  where
    by : (r : Option ReplayError) (o : Option Lane) → slice_get j.lanes h ≡ o
        → elim r as (λ y. Option (Result (Item × Joining) ReplayError)) [ Some g ↦ Some (Err g) | None ↦ elim o as (λ y. Option (Result (Item × Joining) ReplayError)) [ None ↦ None | Some lane ↦ move j h (lane_step j.program lane) ] ] ≡ Some (Ok x) → IsLaneStep j h x
    by (Some g) o at f = absurd cc
    by None None at f = absurd cc
    by None (Some lane) at f = move_lane j h lane (lane_step j.program lane) x at refl f

-- ---- what each step keeps, a run keeps

abbrev walk_of : List Taken → Joining → Walk
walk_of ts j = record { taken = ts; now = j }

module _ (Kept : List Taken → Joining → Type 0)
    (keeps : (ts : List Taken) (j : Joining) (h : ℕ) (x : Item × Joining) → j.refused ≡ None → choice j ≡ Hart h → next_step j h ≡ Some (Ok x) → Kept ts j → Kept (record { hart = h; item = x.0 } ∷ ts) x.1) where
  abbrev Ends : Walk → Type 0
  Ends w = (j : Joining) × Kept w.taken j

  abbrev More : ℕ → List Taken → Type 0
  More n ts = (h : ℕ) (x : Item × Joining) → Kept (record { hart = h; item = x.0 } ∷ ts) x.1 → Ends (run_for n (walk_of (record { hart = h; item = x.0 } ∷ ts) x.1)).walk

  pub run_keeps : (n : ℕ) (ts : List Taken) (j : Joining) → Kept ts j → Ends (run_for n (walk_of ts j)).walk
  run_keeps zero ts j kept = (j, kept)
  run_keeps (suc n) ts j kept = refusal j.refused refl (λ h x more. run_keeps n (record { hart = h; item = x.0 } ∷ ts) x.1 more)
    where
      stepped : (h : ℕ) (o : Option (Result (Item × Joining) ReplayError)) → j.refused ≡ None → choice j ≡ Hart h → next_step j h ≡ o → More n ts
          → Ends (elim o as (λ y. Ran) [
            | None ↦ ran (walk_of ts j) None
            | Some r ↦ elim r as (λ y. Ran) [ Err e ↦ ran (walk_of ts (record j { refused = Some e })) (Some (error_of e)) | Ok x ↦ run_for n (walk_of (record { hart = h; item = x.0 } ∷ ts) x.1) ]
          ]).walk
      stepped h None none lowest e more = (j, kept)
      stepped h (Some (Err g)) none lowest e more = (j, kept)
      stepped h (Some (Ok x)) none lowest e more = more h x (keeps ts j h x none lowest e kept)

      chosen : (k : Next) → j.refused ≡ None → choice j ≡ k → More n ts
          → Ends (elim k as (λ y. Ran) [
            | AllDone ↦ ran (walk_of ts j) None
            | NoneReady ↦ ran (walk_of ts j) (Some (Stuck (positions_from 0 j.lanes)))
            | Hart h ↦ elim (next_step j h) as (λ y. Ran) [
              | None ↦ ran (walk_of ts j) None
              | Some r ↦ elim r as (λ y. Ran) [ Err e ↦ ran (walk_of ts (record j { refused = Some e })) (Some (error_of e)) | Ok x ↦ run_for n (walk_of (record { hart = h; item = x.0 } ∷ ts) x.1) ]
            ]
          ]).walk
      chosen AllDone none lowest more = (j, kept)
      chosen NoneReady none lowest more = (j, kept)
      chosen (Hart h) none lowest more = stepped h (next_step j h) none lowest refl more

      refusal : (o : Option ReplayError) → j.refused ≡ o → More n ts
          → Ends (elim o as (λ y. Ran) [
            | Some e ↦ ran (walk_of ts j) (Some (error_of e))
            | None ↦ elim (choice j) as (λ y. Ran) [
              | AllDone ↦ ran (walk_of ts j) None
              | NoneReady ↦ ran (walk_of ts j) (Some (Stuck (positions_from 0 j.lanes)))
              | Hart h ↦ elim (next_step j h) as (λ y. Ran) [
                | None ↦ ran (walk_of ts j) None
                | Some r ↦ elim r as (λ y. Ran) [ Err e ↦ ran (walk_of ts (record j { refused = Some e })) (Some (error_of e)) | Ok x ↦ run_for n (walk_of (record { hart = h; item = x.0 } ∷ ts) x.1) ]
              ]
            ]
          ]).walk
      refusal (Some e) f more = (j, kept)
      refusal None f more = chosen (choice j) f refl more

-- ---- all steps

-- the points so far are counted, and passed
record IsCounted (harts : ℕ) (now : Joining) (run : List Accessing) : Type 0 where
  pub sound : IsSound now
  pub long : length now.lanes ≡ harts
  pub counted : AreCounted harts run
  pub passed : (m : ℕ) (p : Accessing) → slice_get run m ≡ Some p → is_passed (slice_get now.lanes p.hart) p.row.ic ≡ true

module _ (law : RunsByStep) (steps : StepsPass) (stays : SoundnessStays) (harts : ℕ) where
  sound_next : (j : Joining) (h : ℕ) (x : Item × Joining) → IsSound j → choice j ≡ Hart h → next_step j h ≡ Some (Ok x) → IsSound x.1
  sound_next j h x s lowest e = subst SoundIf ready (stays j h s)
    where
      ready : ready_step j h ≡ Some x
      ready = ap (λ (r : Readiness). elim r as (λ y. Option (Item × Joining)) [
        | is.Ready ↦ elim (next_step j h) as (λ y. Option (Item × Joining)) [ None ↦ None | Some r ↦ elim r as (λ y. Option (Item × Joining)) [ Err e ↦ None | Ok x ↦ Some x ] ]
        | is.Waits s ic ↦ None
        | is.Done ↦ None
      ]) (law.ready j h lowest)
          ∙ ap (λ (o : Option (Result (Item × Joining) ReplayError)). elim o as (λ y. Option (Item × Joining)) [ None ↦ None | Some r ↦ elim r as (λ y. Option (Item × Joining)) [ Err e ↦ None | Ok x ↦ Some x ] ]) e

  -- what was passed stays so
  still : (j : Joining) (h : ℕ) (x : Item × Joining) (s : IsLaneStep j h x) → Passes j.program s.lane x.0 s.next → (k n : ℕ) → is_passed (slice_get j.lanes k) n ≡ true → is_passed (slice_get x.1.lanes k) n ≡ true
  still j h x s p k n e = by (h == k) refl
    where
      by : (b : Bool) → (h == k) ≡ b → is_passed (slice_get x.1.lanes k) n ≡ true
      by true f =
          let same = eqb-true h k f in
          subst (λ (ls : List Lane). is_passed (slice_get ls k) n ≡ true) (sym s.lanes)
          (subst (λ (o : Option Lane). is_passed o n ≡ true) (sym (ap (slice_get (slice_set j.lanes h s.next)) (sym same) ∙ get_same j.lanes h s.lane s.next s.at))
          (p.stays n (subst (λ (o : Option Lane). is_passed o n ≡ true) (ap (slice_get j.lanes) (sym same) ∙ s.at) e)))
      by false f = subst (λ (o : Option Lane). is_passed o n ≡ true) (sym (ap (λ (ls : List Lane). slice_get ls k) s.lanes ∙ get_other j.lanes h k s.next (eqb-false h k f))) e

  one_more : (j : Joining) (h : ℕ) (x : Item × Joining) (before : HartState) (row : Row) (t : Touch) (run : List Accessing) → choice j ≡ Hart h → (s : IsLaneStep j h x) → Passes j.program s.lane x.0 s.next → IsSound x.1 → length x.1.lanes ≡ harts
      → x.0 ≡ Doing before row → touch_of before row ≡ Some t → IsCounted harts j run → IsCounted harts x.1 (run ++ record { hart = h; row = row; touch = t } ∷ [])
  one_more j h x before row t run lowest s p sound long item touch c =
      let lane : IsLane j.program s.lane = c.sound.lanes h s.lane s.at in
      let d = lane_done j.program s.lane.points s.lane.cursors before row s.next (no_fault before row t touch) lane (s.step ∙ ap (λ (i : Item). Some (Ok (i, s.next))) item) in
      let new : Accessing = record { hart = h; row = row; touch = t } in
      record {
        sound = sound;
        long = long;
        counted = record {
          harts_below = λ m q e. elim (get_last run new m q e) [
            | inl f ↦ c.counted.harts_below m q f
            | inr f ↦ subst (λ (a : Accessing). a.hart < harts) f.1 (subst (λ (k : ℕ). h < k) c.long (law.there j h lowest))
          ];
          rise = λ m n a b e f same low. rises d.was m n a b (get_last run new m a e) (get_last run new n b f) same low;
        };
        passed = λ m q e. elim (get_last run new m q e) [
          | inl f ↦ still j h x s p q.hart q.row.ic (c.passed m q f)
          | inr f ↦ subst (λ (a : Accessing). is_passed (slice_get x.1.lanes a.hart) a.row.ic ≡ true) f.1
              (subst (λ (o : Option Lane). is_passed o row.ic ≡ true) (sym (ap (λ (ls : List Lane). slice_get ls h) s.lanes ∙ get_same j.lanes h s.lane s.next s.at)) d.over)
        ];
      }
    where
      point : Accessing
      point = record { hart = h; row = row; touch = t }

      earlier : ((k : ℕ) → is_passed (Some s.lane) k ≡ true → k < row.ic) → (m : ℕ) (a : Accessing) → slice_get run m ≡ Some a → a.hart ≡ h → a.row.ic < row.ic
      earlier was m a e same = was a.row.ic (subst (λ (o : Option Lane). is_passed o a.row.ic ≡ true) (ap (slice_get j.lanes) same ∙ s.at) (c.passed m a e))

      rises : ((k : ℕ) → is_passed (Some s.lane) k ≡ true → k < row.ic) → (m n : ℕ) (a b : Accessing) → (slice_get run m ≡ Some a) ⊎ ((m ≡ length run) × (point ≡ a)) → (slice_get run n ≡ Some b) ⊎ ((n ≡ length run) × (point ≡ b)) → a.hart ≡ b.hart → m < n → a.row.ic < b.row.ic
      rises was m n a b (inl e) (inl f) same low = c.counted.rise m n a b e f same low
      rises was m n a b (inl e) (inr f) same low = subst (λ (k : ℕ). a.row.ic < k) (ap (λ (p : Accessing). p.row.ic) f.1) (earlier was m a e (same ∙ sym (ap (λ (p : Accessing). p.hart) f.1)))
      rises was m n a b (inr e) (inl f) same low = let high = slice_get_within run n b f in let at = e.0 in absurd (omega (arith, at, high, low))
      rises was m n a b (inr e) (inr f) same low = let at = e.0 in let to = f.0 in absurd (omega (arith, at, to, low))

  none_more : (j : Joining) (h : ℕ) (x : Item × Joining) (run : List Accessing) → (s : IsLaneStep j h x) → Passes j.program s.lane x.0 s.next → IsSound x.1 → length x.1.lanes ≡ harts → IsCounted harts j run → IsCounted harts x.1 (run ++ [])
  none_more j h x run s p sound long c = subst (λ (r : List Accessing). IsCounted harts x.1 r) (sym (append-nil run)) (record {
    sound = sound;
    long = long;
    counted = c.counted;
    passed = λ m q e. still j h x s p q.hart q.row.ic (c.passed m q e);
  })

  step_keeps : (j : Joining) (h : ℕ) (x : Item × Joining) (run : List Accessing) → j.refused ≡ None → choice j ≡ Hart h → next_step j h ≡ Some (Ok x) → IsCounted harts j run → IsCounted harts x.1 (run ++ point_in h x.0)
  step_keeps j h x run none lowest e c = by x.0 refl
    where
      s : IsLaneStep j h x
      s = step_lane j h x e

      p : Passes j.program s.lane x.0 s.next
      p = subst (PassesIf j.program s.lane) s.step (steps j.program s.lane (c.sound.lanes h s.lane s.at))

      sound : IsSound x.1
      sound = sound_next j h x c.sound lowest e

      long : length x.1.lanes ≡ harts
      long = (law.first j h x none lowest e).harts ∙ c.long

      row_by : (before : HartState) (row : Row) (o : Option Touch) → x.0 ≡ Doing before row → touch_of before row ≡ o → IsCounted harts x.1 (run ++ accessing h row o)
      row_by before row None f g = none_more j h x run s p sound long c
      row_by before row (Some t) f g = one_more j h x before row t run lowest s p sound long f g c

      by : (i : Item) → x.0 ≡ i → IsCounted harts x.1 (run ++ point_in h i)
      by (Passing ic) f = none_more j h x run s p sound long c
      by (Doing before row) f = row_by before row (touch_of before row) f refl
      by (Ending n m) f = none_more j h x run s p sound long c

pub lanes_long : (i : Program) (records : List Record) (h n : ℕ) → length (lanes_from i records h n) ≡ n
lanes_long i records h zero = refl
lanes_long i records h (suc n) = ap suc (lanes_long i records (h + 1) n)

pub points_are_counted : RunsByStep → StepsPass → SoundnessStays → StartsAreSound → PointsAreCounted
points_are_counted law steps stays starts i s dropped records low order =
    (run_keeps (λ ts j. IsCounted s.harts j (points_of ts)) (λ ts j h x none lowest e c. step_keeps law steps stays s.harts j h x (points_of ts) none lowest e c)
    (steps_left (fresh i s.harts records).lanes + 1) [] (fresh i s.harts records) (record {
      sound = starts i s dropped records low order;
      long = lanes_long i records 0 s.harts;
      counted = record { harts_below = λ m p e. absurd cc; rise = λ m n p q e f same up. absurd cc };
      passed = λ m p e. absurd cc;
    })).1.counted
