-- The steps of a hart.
use Rattle.joint_replay.proofs.Common.{◌≡◌, ◌⊎◌, inl, inr, ℕ, ◌<◌, true, false, refl, sym, ap, ◌∙◌, subst, arith, length, map, List, [], ◌∷◌, is_some, Option, Some, None, IfSome, Result, Ok, Err, Program, EndMark, Row, Record, ReplayError, OutOfMemory, Outcome, Done, Refused, Replayed, after_row, with_rows, outcome_only, Retained, Did, Cursor, Lane, Item, Passing, Doing, Ending, cursor_step, lane_step, Running, hart_lane, hart_cursors, later_cursors, bare_cursor, bare, CursorUnrefused, LaneUnrefused, CursorSteps, LaneRefuses, LaneSteps, same_Some}
use Rattle.joint_replay.specs.declared.lane.Moved.TheVariants as to

module _ (i : Program) (records : List Record) (h : ℕ) (later : List Retained) where
  -- an ordering point is passed
  pub passes : (old new : List ℕ) (cursor : Option Running) (ic : ℕ) (x : Did) → old ≡ ic ∷ new
      → LaneSteps (hart_lane i records h old cursor later) (Ok (to.Passed ic)) x (hart_lane i records h new cursor later)
  passes old new cursor ic x e = (Passing ic, ap (λ (ps : List ℕ). lane_step i (record { points = ps; cursors = hart_cursors i records h cursor later })) e, refl, refl)

  row_is : (c n : Cursor) (cs : List Cursor) (x : Did) → c.left ≡ with_rows (x.row ∷ []) n.left
      → n ≡ record { number = c.number; mark = c.mark; state = after_row i c.state x.row; left = n.left; faulted = is_some x.row.fault }
      → cursor_step i c cs ≡ Ok (Doing c.state x.row, record { points = []; cursors = n ∷ cs })
  row_is c n cs x e f =
      ap (λ (l : Replayed). cursor_step i (record { number = c.number; mark = c.mark; state = c.state; left = l; faulted = c.faulted }) cs) e
      ∙ ap (λ (y : Cursor). done (record { points = []; cursors = y ∷ cs })) (sym f)
    where
      done : Lane → Result (Item × Lane) ReplayError
      done lane = Ok (Doing c.state x.row, lane)

  -- a row is given
  pub gives : (old new : List ℕ) (cursor after : Running) (x : Did) → old ≡ [] → new ≡ [] → cursor.program ≡ i → CursorSteps cursor (Ok (Some x)) after
      → LaneSteps (hart_lane i records h old (Some cursor) later) (Ok to.Row) x (hart_lane i records h new (Some after) later)
  gives old new cursor after x none still same s =
      let cs : List Cursor = later_cursors i records h later in
      let here : cursor_step i cursor.cursor cs ≡ Ok (Doing cursor.cursor.state x.row, record { points = []; cursors = after.cursor ∷ cs }) =
      row_is cursor.cursor after.cursor cs x s.0 (s.3 ∙ ap (λ (p : Program). record { number = cursor.cursor.number; mark = cursor.cursor.mark; state = after_row p cursor.cursor.state x.row; left = after.cursor.left; faulted = is_some x.row.fault }) same) in (
        Doing cursor.cursor.state x.row,
        ap (λ (ps : List ℕ). lane_step i (record { points = ps; cursors = cursor.cursor ∷ cs })) none
            ∙ ap (λ (r : Result (Item × Lane) ReplayError). Some r) (here ∙ ap (λ (ps : List ℕ). at ps) (sym still)),
        (refl, s.1),
        refl,
      )
    where
      at : List ℕ → Result (Item × Lane) ReplayError
      at ps = Ok (Doing cursor.cursor.state x.row, record { points = ps; cursors = after.cursor ∷ later_cursors i records h later })

  -- an interval ends
  pub ends : (old new : List ℕ) (cursor after : Running) (next : Option Running) (rest : List Retained) (n : ℕ) (m : EndMark) (x : Did) → old ≡ [] → new ≡ [] → CursorSteps cursor (Ok None) after
      → n ≡ after.cursor.number → m ≡ after.cursor.mark → hart_cursors i records h next rest ≡ later_cursors i records h later
      → LaneSteps (hart_lane i records h old (Some cursor) later) (Ok (to.Ended n m)) x (hart_lane i records h new next rest)
  ends old new cursor after next rest n m x none still s number mark begun =
      let cs : List Cursor = later_cursors i records h later in
      let c : Cursor = cursor.cursor in
      let here : cursor_step i c cs ≡ Ok (Ending c.number c.mark, record { points = []; cursors = cs }) =
      ap (λ (l : Replayed). cursor_step i (record { number = c.number; mark = c.mark; state = c.state; left = l; faulted = c.faulted }) cs) s.0 in (
        Ending c.number c.mark,
        ap (λ (ps : List ℕ). lane_step i (record { points = ps; cursors = c ∷ cs })) none
            ∙ ap (λ (r : Result (Item × Lane) ReplayError). Some r) (here ∙ ap (λ (ps : List ℕ). at ps cs) (sym still) ∙ ap (at new) (sym begun)),
        ap (λ (k : ℕ). to.Ended k m) (number ∙ ap (λ (r : Running). r.cursor.number) s.1) ∙ ap (to.Ended c.number) (mark ∙ ap (λ (r : Running). r.cursor.mark) s.1),
        refl,
      )
    where
      at : List ℕ → List Cursor → Result (Item × Lane) ReplayError
      at ps cs = Ok (Ending cursor.cursor.number cursor.cursor.mark, record { points = ps; cursors = cs })

  own_program : (o : Option Running) (cursor : Running) → o ≡ Some cursor → IfSome o (λ (r : Running). r.program ≡ i) → cursor.program ≡ i
  own_program None cursor e p = cc
  own_program (Some r) cursor e p = sym (ap (λ (x : Running). x.program) (same_Some r cursor e)) ∙ p

  pub gives_in : (old new : List ℕ) (o : Option Running) (cursor after : Running) (x : Did) → o ≡ Some cursor → IfSome o (λ (r : Running). r.program ≡ i)
      → old ≡ [] → new ≡ [] → CursorSteps cursor (Ok (Some x)) after → LaneSteps (hart_lane i records h old o later) (Ok to.Row) x (hart_lane i records h new (Some after) later)
  gives_in old new o cursor after x e p none still s =
      subst (λ (y : Option Running). LaneSteps (hart_lane i records h old y later) (Ok to.Row) x (hart_lane i records h new (Some after) later)) (sym e)
      (gives old new cursor after x none still (own_program o cursor e p) s)

  pub ends_in : (old new : List ℕ) (o : Option Running) (cursor after : Running) (next : Option Running) (rest : List Retained) (n : ℕ) (m : EndMark) (x : Did) → o ≡ Some cursor
      → old ≡ [] → new ≡ [] → CursorSteps cursor (Ok None) after → n ≡ after.cursor.number → m ≡ after.cursor.mark → hart_cursors i records h next rest ≡ later_cursors i records h later
      → LaneSteps (hart_lane i records h old o later) (Ok (to.Ended n m)) x (hart_lane i records h new next rest)
  ends_in old new o cursor after next rest n m x e none still s number mark begun =
      subst (λ (y : Option Running). LaneSteps (hart_lane i records h old y later) (Ok (to.Ended n m)) x (hart_lane i records h new next rest)) (sym e)
      (ends old new cursor after next rest n m x none still s number mark begun)

  -- ---- a refusal

  -- what a step refuses is left to be told
  refusal_left : (c : Cursor) (cs : List Cursor) (r : ReplayError) → cursor_step i c cs ≡ Err r → c.left ≡ outcome_only (Refused r)
  refusal_left c cs r e = by c.left.rows c.left.outcome e
    where
      same : (a b : ReplayError) → ◌≡◌ {A = Result (Item × Lane) ReplayError} (Err a) (Err b) → a ≡ b
      same a b f = cc

      with_left : Replayed → Cursor
      with_left x = record { number = c.number; mark = c.mark; state = c.state; left = x; faulted = c.faulted }

      by : (rows : List Row) (o : Outcome) → cursor_step i (with_left (record { rows = rows; outcome = o })) cs ≡ Err r → ◌≡◌ {A = Replayed} (record { rows = rows; outcome = o }) (outcome_only (Refused r))
      by (row ∷ rs) o g = absurd cc
      by [] Done g = absurd cc
      by [] (Refused a) g = ap (λ (y : ReplayError). outcome_only (Refused y)) (same a r g)

  -- a hart is refused a step as its interval is
  pub refuses : (old new : List ℕ) (cursor after : Running) (e : ReplayError) → old ≡ [] → new ≡ [] → CursorSteps cursor (Err e) after
      → LaneRefuses (hart_lane i records h old (Some cursor) later) e (hart_lane i records h new (Some after) later)
  refuses old new cursor after e none still s = (refl, by s.1)
    where
      cs : List Cursor
      cs = later_cursors i records h later

      lane : List ℕ → Cursor → Lane
      lane ps c = record { points = ps; cursors = c ∷ cs }

      same_points : (c : Cursor) → lane new c ≡ lane old c
      same_points c = ap (λ (ps : List ℕ). lane ps c) (still ∙ sym none)

      on : CursorUnrefused cursor.cursor → (r : ReplayError) → lane_step i (lane old cursor.cursor) ≡ Some (Err r) → r ≡ OutOfMemory
      on n r f = n r (refusal_left cursor.cursor cs r (given (sym (ap (λ (ps : List ℕ). lane_step i (lane ps cursor.cursor)) none) ∙ f)))
        where
          given : Some (cursor_step i cursor.cursor cs) ≡ Some (Err r) → cursor_step i cursor.cursor cs ≡ Err r
          given g = cc

      by : ((cursor.cursor.left ≡ outcome_only (Refused e)) × (after.cursor ≡ cursor.cursor)) ⊎ ((e ≡ OutOfMemory) × (bare_cursor after.cursor ≡ bare_cursor cursor.cursor) × CursorUnrefused cursor.cursor)
          → ((lane_step i (lane old cursor.cursor) ≡ Some (Err e)) × (lane new after.cursor ≡ lane old cursor.cursor))
          ⊎ ((e ≡ OutOfMemory) × (bare (lane new after.cursor) ≡ bare (lane old cursor.cursor)) × LaneUnrefused (hart_lane i records h old (Some cursor) later))
      by (inl a) = inl (
        ap (λ (ps : List ℕ). lane_step i (lane ps cursor.cursor)) none
            ∙ ap (λ (l : Replayed). lane_step i (lane [] (record { number = cursor.cursor.number; mark = cursor.cursor.mark; state = cursor.cursor.state; left = l; faulted = cursor.cursor.faulted }))) a.0,
        ap (lane new) a.1 ∙ same_points cursor.cursor,
      )
      by (inr b) = inr (b.0, bare_same b.1, on b.2)
        where
          bare_same : bare_cursor after.cursor ≡ bare_cursor cursor.cursor → bare (lane new after.cursor) ≡ bare (lane old cursor.cursor)
          bare_same f = ap bare (same_points after.cursor) ∙ ap (λ (c : Cursor). bare_with c) f
            where
              bare_with : Cursor → Lane
              bare_with c = record { points = old; cursors = c ∷ map bare_cursor cs }

  pub refuses_in : (old new : List ℕ) (o : Option Running) (cursor after : Running) (e : ReplayError) → o ≡ Some cursor → old ≡ [] → new ≡ [] → CursorSteps cursor (Err e) after
      → LaneRefuses (hart_lane i records h old o later) e (hart_lane i records h new (Some after) later)
  refuses_in old new o cursor after e f none still s =
      subst (λ (y : Option Running). LaneRefuses (hart_lane i records h old y later) e (hart_lane i records h new (Some after) later)) (sym f) (refuses old new cursor after e none still s)

pub no_keys : (ks : List ℕ) → (0 < length ks → false ≡ true) → ks ≡ []
no_keys [] none = refl
no_keys (k ∷ ks) none = let never : false ≡ true = none (omega arith) in absurd cc
