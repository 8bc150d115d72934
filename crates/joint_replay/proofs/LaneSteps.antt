-- A step of a hart passes the point that it is at, and no other on its way.
use Rattle.joint_replay.proofs.Common.{◌≡◌, ℕ, ◌+◌, ◌<◌, ◌≤◌, Bool, true, false, not, ◌&&◌, ◌⊎◌, inl, inr, nat_lt, refl, sym, ap, ◌∙◌, subst, arith, List, [], ◌∷◌, Option, Some, None, is_some, Program, EndMark, Row, HartState, Outcome, Done, Refused, after_row, Coming, RowAt, EndAt, Cursor, Passing, Doing, Ending, count_of, has_row, is_within, lane_step, cursor_step, is_passed, RowsFrom, GoesOn, AreFrom, AreCursors, ArePoints, Has, last_count, InCursors, Passes, PassesIf, StepsPass, cases_lt, lt-ltb, ltb-false, ltb-true, or_parts}

-- ---- what is passed, by the count that comes next

passed_by : (c : Cursor) (k : ℕ) (b : Bool) → (b ≡ false → c.mark.ic ≡ c.state.ic)
    → elim (elim b as (λ x. Option Coming) [ true ↦ Some (RowAt c.state.ic) | false ↦ Some (EndAt c.mark.ic) ]) as (λ x. Bool) [ None ↦ true | Some d ↦ nat_lt k (count_of d) ] ≡ nat_lt k c.state.ic
passed_by c k true e = refl
passed_by c k false e = ap (nat_lt k) (e refl)

module _ (i : Program) where
  pub cursor_passed : (c : Cursor) (cs : List Cursor) (k : ℕ) → c.state.ic ≤ c.mark.ic → is_passed (Some (record { points = []; cursors = c ∷ cs })) k ≡ nat_lt k c.state.ic
  cursor_passed c cs k low =
      passed_by c k (has_row c) (λ e. let past = ltb-false c.state.ic c.mark.ic ((or_parts (is_within c) (nat_lt 16 c.mark.reason && not c.faulted) e).0) in omega (arith, past, low))

  pub first_goes : (c : Cursor) (cs : List Cursor) → AreFrom i c cs → GoesOn i c
  first_goes c [] a = a
  first_goes c (d ∷ ds) a = a.0

  -- ---- an ordering point

  rest_points : (p : ℕ) (ps : List ℕ) (cs : List Cursor) → ArePoints (p ∷ ps) cs → ArePoints ps cs
  rest_points p [] cs a = tt
  rest_points p (q ∷ qs) cs a = a.1

  pub above : (p : ℕ) (ps : List ℕ) (cs : List Cursor) (k : ℕ) → ArePoints (p ∷ ps) cs → Has ps k → p < k
  above p [] cs k a h = absurd h
  above p (q ∷ qs) cs k a (inl e) = omega (arith, a.0, e)
  above p (q ∷ qs) cs k a (inr h) = let later = above q qs cs k a.1 h in omega (arith, a.0, later)

  -- what is on the way after the first point isn't passed with it
  not_yet : (p : ℕ) (ps : List ℕ) (cs : List Cursor) (k : ℕ) → ArePoints (p ∷ ps) cs → AreCursors i cs → is_passed (Some (record { points = ps; cursors = cs })) k ≡ true → Has ps k ⊎ InCursors cs k → ⊥
  not_yet p [] [] k a s e (inl h) = absurd h
  not_yet p [] [] k a s e (inr h) = absurd h
  not_yet p [] (c ∷ cs) k a s e (inl h) = absurd h
  not_yet p [] (c ∷ cs) k a s e (inr h) =
      let low = ltb-true k c.state.ic (sym (cursor_passed c cs k (first_goes c cs s).0) ∙ e) in omega (arith, low, h.0)
  not_yet p (q ∷ qs) cs k a s e (inl (inl same)) = let low = ltb-true k q e in omega (arith, low, same)
  not_yet p (q ∷ qs) cs k a s e (inl (inr h)) = let low = ltb-true k q e in let up = above q qs cs k a.1 h in omega (arith, low, up)
  not_yet p (q ∷ qs) [] k a s e (inr h) = absurd h
  not_yet p (q ∷ qs) (c ∷ cs) k a s e (inr h) = let low = ltb-true k q e in let up = under q qs a.1 in omega (arith, low, up, h.0)
    where
      under : (p : ℕ) (ps : List ℕ) → ArePoints (p ∷ ps) (c ∷ cs) → p < c.state.ic
      under p [] b = b
      under p (r ∷ rs) b = let more = under r rs b.1 in omega (arith, b.0, more)

  -- with the first point, all below it and itself is passed
  pub passed_with : (p : ℕ) (ps : List ℕ) (cs : List Cursor) (k : ℕ) → ArePoints (p ∷ ps) cs → AreCursors i cs → k ≤ p → is_passed (Some (record { points = ps; cursors = cs })) k ≡ true
  passed_with p [] [] k a s low = refl
  passed_with p [] (c ∷ cs) k a s low = cursor_passed c cs k (first_goes c cs s).0 ∙ lt-ltb k c.state.ic (omega (arith, low, a))
  passed_with p (q ∷ qs) cs k a s low = lt-ltb k q (omega (arith, low, a.0))

  passing : (p : ℕ) (ps : List ℕ) (cs : List Cursor) → ArePoints (p ∷ ps) cs → AreCursors i cs → Passes i (record { points = p ∷ ps; cursors = cs }) (Passing p) (record { points = ps; cursors = cs })
  passing p ps cs a s = record {
    lane = record { points = rest_points p ps cs a; cursors = s };
    stays = λ k e. passed_with p ps cs k a s (let low = ltb-true k p e in omega (arith, low));
    one = λ k o e. elim o [
      | inl before ↦ inl before
      | inr (inl (inl same)) ↦ inr (ap (λ n. Some n) same)
      | inr (inl (inr h)) ↦ absurd (not_yet p ps cs k a s e (inl h))
      | inr (inr h) ↦ absurd (not_yet p ps cs k a s e (inr h))
    ];
    on = λ k o. elim o [
      | inl before ↦ inl (passed_with p ps cs k a s (let low = ltb-true k p before in omega (arith, low)))
      | inr (inl (inl same)) ↦ inl (passed_with p ps cs k a s (omega (arith, same)))
      | inr (inl (inr h)) ↦ inr (inl h)
      | inr (inr h) ↦ inr (inr h)
    ];
    rows = λ k h. inl h;
    at = λ n h. absurd h;
  }

  -- ---- a row

  abbrev pub next_cursor : Cursor → Row → List Row → Cursor
  next_cursor c r rs = record { number = c.number; mark = c.mark; state = after_row i c.state r; left = record { rows = rs; outcome = c.left.outcome }; faulted = is_some r.fault }

  -- the counts of a row: below the End's it goes one on, and at it, it stays
  row_counts : (c : Cursor) (r : Row) (rs : List Row) → c.state.ic ≤ c.mark.ic → RowsFrom i c.mark.ic c.left.outcome c.state (r ∷ rs)
      → ((c.state.ic < c.mark.ic) × ((next_cursor c r rs).state.ic ≡ c.state.ic + 1)) ⊎ ((next_cursor c r rs).state.ic ≡ c.state.ic)
  row_counts c r rs low g = elim (cases_lt c.state.ic c.mark.ic) [
    | inl less ↦ inl (less, (g.1 less).1)
    | inr past ↦ inr (ap (λ (s : HartState). s.ic) (g.2 past).1)
  ]

  pub next_goes : (c : Cursor) (r : Row) (rs : List Row) → c.state.ic ≤ c.mark.ic → RowsFrom i c.mark.ic c.left.outcome c.state (r ∷ rs) → GoesOn i (next_cursor c r rs)
  next_goes c r rs low g = (elim (row_counts c r rs low g) [ inl x ↦ (let a = x.0 in let b = x.1 in omega (arith, a, b)) | inr e ↦ omega (arith, e, low) ], g.3)

  replace : (c d : Cursor) (cs : List Cursor) → d.mark ≡ c.mark → GoesOn i d → AreFrom i c cs → AreFrom i d cs
  replace c d [] same g a = g
  replace c d (e ∷ es) same g a = (g, a.1 ∙ sym (ap (λ m. m.ic) same), a.2)

  same_last : (c d : Cursor) (cs : List Cursor) → d.mark ≡ c.mark → last_count d cs ≡ last_count c cs
  same_last c d [] same = ap (λ m. m.ic) same
  same_last c d (e ∷ es) same = refl

  doing : (c : Cursor) (cs : List Cursor) (r : Row) (rs : List Row) → RowsFrom i c.mark.ic c.left.outcome c.state (r ∷ rs) → AreFrom i c cs
      → Passes i (record { points = []; cursors = c ∷ cs }) (Doing c.state r) (record { points = []; cursors = next_cursor c r rs ∷ cs })
  doing c cs r rs g a =
      let low = (first_goes c cs a).0 in
      let d : Cursor = next_cursor c r rs in
      let goes = next_goes c r rs low g in
      let old = cursor_passed c cs in
      let new = cursor_passed d cs in
      let up : c.state.ic ≤ d.state.ic = elim (row_counts c r rs low g) [ inl x ↦ (let b = x.1 in omega (arith, b)) | inr e ↦ omega (arith, e) ] in
      record {
        lane = record { points = tt; cursors = replace c d cs refl goes a };
        stays = λ k e. (let under = ltb-true k c.state.ic (sym (old k low) ∙ e) in new k goes.0 ∙ lt-ltb k d.state.ic (omega (arith, under, up)));
        one = λ k o e.
            let under : k < d.state.ic = ltb-true k d.state.ic (sym (new k goes.0) ∙ e) in
            elim (cases_lt k c.state.ic) [
              | inl before ↦ inl (old k low ∙ lt-ltb k c.state.ic before)
              | inr at ↦ elim (row_counts c r rs low g) [
                | inl x ↦
                    let more = x.1 in
                    let same : c.state.ic ≡ k = omega (arith, at, under, more) in
                    inr (ap (λ (b : Bool). elim b as (λ y. Option ℕ) [ true ↦ Some c.state.ic | false ↦ None ]) (lt-ltb c.state.ic c.mark.ic x.0) ∙ ap (λ n. Some n) same)
                | inr stays ↦ absurd (omega (arith, at, under, stays))
              ]
            ];
        on = λ k o. elim (cases_lt k d.state.ic) [
          | inl before ↦ inl (new k goes.0 ∙ lt-ltb k d.state.ic before)
          | inr at ↦ elim o [
            | inl passed ↦ (let under = ltb-true k c.state.ic (sym (old k low) ∙ passed) in absurd (omega (arith, under, at, up)))
            | inr (inl h) ↦ absurd h
            | inr (inr h) ↦ inr (inr (at, subst (λ n. k < n) (sym (same_last c d cs refl)) h.1))
          ]
        ];
        rows = λ k h. elim (cases_lt k d.state.ic) [
          | inr at ↦ inl (at, subst (λ n. k < n) (sym (same_last c d cs refl)) h.1)
          | inl under ↦ elim (row_counts c r rs low g) [
            | inl x ↦ (let e = g.0 in let l = h.0 in let more = x.1 in inr (omega (arith, e, l, under, more), (g.1 x.0).0))
            | inr stays ↦ (let l = h.0 in absurd (omega (arith, l, under, stays)))
          ]
        ];
        at = λ n h. elim (cases_lt c.state.ic c.mark.ic) [
          | inl less ↦ (
            ap (λ (b : Bool). elim b as (λ y. Option ℕ) [ true ↦ Some c.state.ic | false ↦ None ]) (lt-ltb c.state.ic c.mark.ic less) ∙ ap (λ m. Some m) (sym g.0 ∙ h.0),
            λ k under. old k low ∙ lt-ltb k c.state.ic (let e = g.0 in let f = h.0 in omega (arith, e, f, under)),
          )
          | inr past ↦ (let faults : is_some r.fault ≡ true = (g.2 past).0 in let none : is_some r.fault ≡ false = ap is_some h.1 in let f : false ≡ true = sym none ∙ faults in absurd cc)
        ];
      }

  -- ---- an interval's end

  ending : (c : Cursor) (cs : List Cursor) → c.mark.ic ≤ c.state.ic → AreFrom i c cs → Passes i (record { points = []; cursors = c ∷ cs }) (Ending c.number c.mark) (record { points = []; cursors = cs })
  ending c [] past a = record {
    lane = record { points = tt; cursors = tt };
    stays = λ k e. refl;
    one = λ k o e. elim o [
      | inl before ↦ inl before
      | inr (inl h) ↦ absurd h
      | inr (inr h) ↦ (let l = h.0 in let u = h.1 in absurd (omega (arith, l, u, past)))
    ];
    on = λ k o. inl refl;
    rows = λ k h. (let l = h.0 in let u = h.1 in absurd (omega (arith, l, u, past)));
    at = λ n h. absurd h;
  }
  ending c (d ∷ ds) past a =
      let low = a.0.0 in
      let same : d.state.ic ≡ c.state.ic = (let e = a.1 in omega (arith, e, low, past)) in
      let goes = first_goes d ds a.2 in
      let equal : (k : ℕ) → is_passed (Some (record { points = []; cursors = d ∷ ds })) k ≡ is_passed (Some (record { points = []; cursors = c ∷ d ∷ ds })) k =
      λ k. cursor_passed d ds k goes.0 ∙ ap (nat_lt k) same ∙ sym (cursor_passed c (d ∷ ds) k low) in
      record {
        lane = record { points = tt; cursors = a.2 };
        stays = λ k e. equal k ∙ e;
        one = λ k o e. inl (sym (equal k) ∙ e);
        on = λ k o. elim o [
          | inl before ↦ inl (equal k ∙ before)
          | inr (inl h) ↦ absurd h
          | inr (inr h) ↦ inr (inr (let l = h.0 in omega (arith, l, same), h.1))
        ];
        rows = λ k h. inl (let l = h.0 in omega (arith, l, same), h.1);
        at = λ n h. absurd h;
      }

  -- ---- all steps

  by_left : (number : ℕ) (mark : EndMark) (state : HartState) (rows : List Row) (o : Outcome) (faulted : Bool) (cs : List Cursor)
      → let c : Cursor = record { number = number; mark = mark; state = state; left = record { rows = rows; outcome = o }; faulted = faulted } in
      AreFrom i c cs → PassesIf i (record { points = []; cursors = c ∷ cs }) (Some (cursor_step i c cs))
  by_left number mark state (r ∷ rs) o faulted cs a =
      let c : Cursor = record { number = number; mark = mark; state = state; left = record { rows = r ∷ rs; outcome = o }; faulted = faulted } in doing c cs r rs (first_goes c cs a).1 a
  by_left number mark state [] Done faulted cs a =
      let c : Cursor = record { number = number; mark = mark; state = state; left = record { rows = []; outcome = Done }; faulted = faulted } in ending c cs ((first_goes c cs a).1 refl) a
  by_left number mark state [] (Refused e) faulted cs a = tt

  by_lane : (points : List ℕ) (cursors : List Cursor) → ArePoints points cursors → AreCursors i cursors → PassesIf i (record { points = points; cursors = cursors }) (lane_step i (record { points = points; cursors = cursors }))
  by_lane (p ∷ ps) cs a s = passing p ps cs a s
  by_lane [] [] a s = tt
  by_lane [] (c ∷ cs) a s = by_left c.number c.mark c.state c.left.rows c.left.outcome c.faulted cs s

pub steps_pass : StepsPass
steps_pass i lane l = by_lane i lane.points lane.cursors l.points l.cursors
