-- In each beginning of an allowed order an instruction is done once at most, and it is one of a retained interval.
use Rattle.joint_laws.proofs.Common.{◌≡◌, ℕ, zero, suc, ◌<◌, ◌≤◌, true, ◌⊎◌, inl, inr, refl, sym, ap, ◌∙◌, subst, arith, List, [], ◌∷◌, slice_get, slice_set, is_some, Option, Some, None, false≢true, eqb_tells, Program, Row, HartState, Record, after_row, Cursor, Lane, Item, Doing, row_given, Joining, Taken, Walk, begun, longer, is_passed, IsBegun, AreFrom, AreCursors, IsLane, last_count, InCursors, IsRowAt, Passes, PassesIf, IsSound, SoundIf, Did, IsLeft, IsToDo, StepsPass, SoundnessStays, Recording, begin, lt-ltb, ltb-true, cases_lt, get_same, get_other}
use Rattle.joint_replay.specs.Counts.{RowsFrom}
use Rattle.joint_laws.proofs.Moves.{IsMove, StepOf, along, by_kind, some_is}
use Rattle.joint_replay.proofs.LaneSteps.{cursor_passed, first_goes}

-- ---- a step of one hart

-- what is to do after it was to do before; what it did was to do, and wasn't passed but is now
record IsFresh (old : Lane) (item : Item) (next : Lane) : Type 0 where
  back : (k : ℕ) → InCursors next.cursors k → InCursors old.cursors k
  to_do : (k : ℕ) → IsRowAt k item → InCursors old.cursors k
  before : (k : ℕ) → IsRowAt k item → is_passed (Some old) k ≡ true → ⊥
  after : (k : ℕ) → IsRowAt k item → is_passed (Some next) k ≡ true

none_some : {X : Type 0} (o : Option X) → o ≡ None → is_some o ≡ true → ⊥
none_some None e f = false≢true f
none_some (Some x) e f = absurd cc

module _ (i : Program) where
  last_up : (c : Cursor) (cs : List Cursor) → AreFrom i c cs → c.mark.ic ≤ last_count c cs
  last_up c [] a = omega arith
  last_up c (d ∷ ds) a = let rest = last_up d ds a.2 in let goes = (first_goes i d ds a.2).0 in omega (arith, rest, goes, a.1)

  -- a hart at a row
  module _ (c : Cursor) (cs : List Cursor) (row : Row) (rs : List Row) (all : AreFrom i c cs) (rows : c.left.rows ≡ row ∷ rs) where
    abbrev old_at : Lane
    old_at = record { points = []; cursors = c ∷ cs }

    abbrev next_at : Lane
    next_at = record { points = []; cursors = row_given i c row rs ∷ cs }

    from : RowsFrom i c.mark.ic c.left.outcome c.state (row ∷ rs)
    from = subst (RowsFrom i c.mark.ic c.left.outcome c.state) rows (first_goes i c cs all).1

    -- an instruction, and no fault, is below the End's count
    within : row.fault ≡ None → c.state.ic < c.mark.ic
    within e = elim (cases_lt c.state.ic c.mark.ic) [ inl low ↦ low | inr high ↦ absurd (none_some row.fault e (from.2 high).0) ]

    higher : c.state.ic ≤ (after_row i c.state row).ic
    higher = elim (cases_lt c.state.ic c.mark.ic) [
      | inl low ↦ (let up = (from.1 low).1 in omega (arith, up))
      | inr high ↦ (let same = ap (λ (s : HartState). s.ic) (from.2 high).1 in omega (arith, same))
    ]

    last_same : (d : Cursor) → d.mark ≡ c.mark → last_count d cs ≡ last_count c cs
    last_same d e = by cs
      where
        by : (ds : List Cursor) → last_count d ds ≡ last_count c ds
        by [] = ap (λ m. m.ic) e
        by (x ∷ xs) = refl

    row_fresh : IsFresh old_at (Doing c.state row) next_at
    row_fresh = record {
      back = λ k h. (let low = h.0 in let up = higher in let last = last_same (row_given i c row rs) refl in let high = h.1 in (omega (arith, low, up), omega (arith, high, last)));
      to_do = λ k d. (let at : c.state.ic ≡ k = sym from.0 ∙ d.0 in let low = within d.1 in let up = last_up c cs all in (omega (arith, at), omega (arith, at, low, up)));
      before = λ k d e. (let at : c.state.ic ≡ k = sym from.0 ∙ d.0 in let low = ltb-true k c.state.ic (sym (cursor_passed i c cs k (first_goes i c cs all).0) ∙ e) in omega (arith, at, low));
      after = λ k d. (let at : c.state.ic ≡ k = sym from.0 ∙ d.0 in let low = within d.1 in let up = (from.1 low).1 in
          cursor_passed i (row_given i c row rs) cs k (omega (arith, low, up)) ∙ lt-ltb k (after_row i c.state row).ic (omega (arith, at, up)));
    }

  end_back : (c : Cursor) (cs : List Cursor) → AreFrom i c cs → (k : ℕ) → InCursors cs k → InCursors (c ∷ cs) k
  end_back c [] all k h = absurd h
  end_back c (d ∷ ds) all k h = let low = all.0.0 in let same = all.1 in let from = h.0 in (omega (arith, low, same, from), h.1)

  module _ (lane : Lane) (is : IsLane i lane) where
    abbrev Fresh : Item → Lane → Type 0
    Fresh item next = IsFresh lane item next

    lane_at : (c : Cursor) (cs : List Cursor) → lane.points ≡ [] → lane.cursors ≡ c ∷ cs → ◌≡◌ {A = Lane} (record { points = []; cursors = c ∷ cs }) lane
    lane_at c cs e f = ap (λ ps. record { points = ps; cursors = c ∷ cs }) (sym e) ∙ ap (λ ds. record { points = lane.points; cursors = ds }) (sym f)

    from_first : (c : Cursor) (cs : List Cursor) → lane.cursors ≡ c ∷ cs → AreFrom i c cs
    from_first c cs f = subst (AreCursors i) f is.cursors

    fresh : StepOf i Fresh lane
    fresh = record {
      passing = λ p ps e. record { back = λ k h. h; to_do = λ k d. absurd d; before = λ k d. absurd d; after = λ k d. absurd d };
      doing = λ c cs row rs e f g. subst (λ (l : Lane). IsFresh l (Doing c.state row) (record { points = []; cursors = row_given i c row rs ∷ cs })) (lane_at c cs e f) (row_fresh c cs row rs (from_first c cs f) g);
      ending = λ c cs e f g d. record {
        back = λ k h. subst (λ ds. InCursors ds k) (sym f) (end_back c cs (from_first c cs f) k h);
        to_do = λ k d. absurd d;
        before = λ k d. absurd d;
        after = λ k d. absurd d;
      };
    }

-- ---- all harts

record IsOnce (start : Joining) (w : Walk) : Type 0 where
  sound : IsSound w.now
  passed : (x h k : ℕ) → Did w.taken x h k → is_passed (slice_get w.now.lanes h) k ≡ true
  back : (h k : ℕ) → IsToDo w.now h k → IsToDo start h k
  to_do : (x h k : ℕ) → Did w.taken x h k → IsToDo start h k
  once : (x y h k : ℕ) → Did w.taken x h k → Did w.taken y h k → x ≡ y
  left : (h k : ℕ) → IsToDo start h k → ((x : ℕ) × Did w.taken x h k) ⊎ IsToDo w.now h k

pub record IsDoneOnce (start : Joining) (w : Walk) : Type 0 where
  pub to_do : (x h k : ℕ) → Did w.taken x h k → IsToDo start h k
  pub once : (x y h k : ℕ) → Did w.taken x h k → Did w.taken y h k → x ≡ y
  pub left : (h k : ℕ) → IsToDo start h k → ((x : ℕ) × Did w.taken x h k) ⊎ IsToDo w.now h k

module _ (pass : StepsPass) (stay : SoundnessStays) (start : Joining) (w : Walk) (h : ℕ) (x : Item × Joining) (o : IsOnce start w) (m : IsMove w.now h x) where
  lane_is : IsLane w.now.program m.lane
  lane_is = o.sound.lanes h m.lane m.at

  passes : Passes w.now.program m.lane x.0 m.next
  passes = subst (λ s. PassesIf w.now.program m.lane s) m.step (pass w.now.program m.lane lane_is)

  is_fresh : IsFresh m.lane x.0 m.next
  is_fresh = by_kind w.now.program (IsFresh m.lane) m.lane (fresh w.now.program m.lane lane_is) x.0 m.next m.step

  abbrev new : List Taken
  new = record { hart = h; item = x.0 } ∷ w.taken

  earlier : (y k c : ℕ) → Did new (suc y) k c → Did w.taken y k c
  earlier y k c d = record { step = d.step; at = d.at; hart_is = d.hart_is; row = d.row }

  -- the step is this one
  here : (k c : ℕ) → Did new 0 k c → (h ≡ k) × IsRowAt c x.0
  here k c d =
      let same : ◌≡◌ {A = Taken} (record { hart = h; item = x.0 }) d.step = some_is (record { hart = h; item = x.0 }) d.step (Some (record { hart = h; item = x.0 })) refl d.at in
      (ap (λ (t : Taken). t.hart) same ∙ d.hart_is, subst (λ (t : Taken). IsRowAt c t.item) (sym same) d.row)

  lanes_are : slice_set w.now.lanes h m.next ≡ x.1.lanes
  lanes_are = ap (λ (j : Joining). j.lanes) (sym m.is)

  left_back : (k c : ℕ) → IsLeft (slice_get (slice_set w.now.lanes h m.next) k) c → IsToDo w.now k c
  left_back k c l = elim (eqb_tells h k) [
    | inl same ↦ subst (λ n. IsToDo w.now n c) same.1 (subst (λ s. IsLeft s c) (sym m.at)
        (is_fresh.back c (subst (λ s. IsLeft s c) (get_same w.now.lanes h m.lane m.next m.at) (subst (λ n. IsLeft (slice_get (slice_set w.now.lanes h m.next) n) c) (sym same.1) l))))
    | inr apart ↦ subst (λ s. IsLeft s c) (get_other w.now.lanes h k m.next apart.1) l
  ]

  -- what was passed stays so
  stays : (k c : ℕ) → is_passed (slice_get w.now.lanes k) c ≡ true → is_passed (slice_get (slice_set w.now.lanes h m.next) k) c ≡ true
  stays k c e = elim (eqb_tells h k) [
    | inl same ↦
        subst (λ n. is_passed (slice_get (slice_set w.now.lanes h m.next) n) c ≡ true) same.1
        (ap (λ s. is_passed s c) (get_same w.now.lanes h m.lane m.next m.at) ∙ passes.stays c (ap (λ s. is_passed s c) (sym m.at) ∙ subst (λ n. is_passed (slice_get w.now.lanes n) c ≡ true) (sym same.1) e))
    | inr apart ↦ ap (λ s. is_passed s c) (get_other w.now.lanes h k m.next apart.1) ∙ e
  ]

  now_passed : (y k c : ℕ) → Did new y k c → is_passed (slice_get (slice_set w.now.lanes h m.next) k) c ≡ true
  now_passed zero k c d =
      let e = here k c d in
      subst (λ n. is_passed (slice_get (slice_set w.now.lanes h m.next) n) c ≡ true) e.0 (ap (λ s. is_passed s c) (get_same w.now.lanes h m.lane m.next m.at) ∙ is_fresh.after c e.1)
  now_passed (suc y) k c d = stays k c (o.passed y k c (earlier y k c d))

  now_to_do : (y k c : ℕ) → Did new y k c → IsToDo start k c
  now_to_do zero k c d = let e = here k c d in o.back k c (subst (λ n. IsToDo w.now n c) e.0 (subst (λ s. IsLeft s c) (sym m.at) (is_fresh.to_do c e.1)))
  now_to_do (suc y) k c d = o.to_do y k c (earlier y k c d)

  -- what was done isn't done again
  not_again : (y k c : ℕ) → Did new 0 k c → Did w.taken y k c → ⊥
  not_again y k c d u =
      let e = here k c d in
      is_fresh.before c e.1 (sym (ap (λ s. is_passed s c) m.at) ∙ (ap (λ n. is_passed (slice_get w.now.lanes n) c) e.0 ∙ o.passed y k c u))

  now_once : (y z k c : ℕ) → Did new y k c → Did new z k c → y ≡ z
  now_once zero zero k c d u = refl
  now_once zero (suc z) k c d u = absurd (not_again z k c d (earlier z k c u))
  now_once (suc y) zero k c d u = absurd (not_again y k c u (earlier y k c d))
  now_once (suc y) (suc z) k c d u = ap suc (o.once y z k c (earlier y k c d) (earlier z k c u))

  -- what was to do is so still, or this step did it
  still : (k c : ℕ) → IsToDo w.now k c → ((y : ℕ) × Did new y k c) ⊎ IsLeft (slice_get (slice_set w.now.lanes h m.next) k) c
  still k c t = elim (eqb_tells h k) [
    | inl same ↦ elim (passes.rows c (subst (λ s. IsLeft s c) m.at (subst (λ n. IsToDo w.now n c) (sym same.1) t))) [
      | inl l ↦ inr (subst (λ n. IsLeft (slice_get (slice_set w.now.lanes h m.next) n) c) same.1 (subst (λ s. IsLeft s c) (sym (get_same w.now.lanes h m.lane m.next m.at)) l))
      | inr row ↦ inl (0, record { step = record { hart = h; item = x.0 }; at = refl; hart_is = same.1; row = row })
    ]
    | inr apart ↦ inr (subst (λ s. IsLeft s c) (sym (get_other w.now.lanes h k m.next apart.1)) t)
  ]

  now_left : (k c : ℕ) → IsToDo start k c → ((y : ℕ) × Did new y k c) ⊎ IsLeft (slice_get (slice_set w.now.lanes h m.next) k) c
  now_left k c t = elim (o.left k c t) [
    | inl d ↦ inl (suc d.0, record { step = d.1.step; at = d.1.at; hart_is = d.1.hart_is; row = d.1.row })
    | inr l ↦ still k c l
  ]

  step_once : IsOnce start (longer w h x)
  step_once = record {
    sound = subst SoundIf m.taken (stay w.now h o.sound);
    passed = λ y k c d. ap (λ ls. is_passed (slice_get ls k) c) (sym lanes_are) ∙ now_passed y k c d;
    back = λ k c l. o.back k c (left_back k c (subst (λ ls. IsLeft (slice_get ls k) c) (sym lanes_are) l));
    to_do = now_to_do;
    once = now_once;
    left = λ k c t. subst (λ ls. ((y : ℕ) × Did new y k c) ⊎ IsLeft (slice_get ls k) c) lanes_are (now_left k c t);
  }

nothing_did : (x h k : ℕ) → Did [] x h k → ⊥
nothing_did x h k d = let e = d.at in cc

pub done_once : StepsPass → SoundnessStays → (r : Recording) (records : List Record) (order : List ℕ) (w : Walk) → IsSound (begin r records) → IsBegun r.program r.settings.harts records order w → IsDoneOnce (begin r records) w
done_once pass stay r records order w sound b =
    let o : IsOnce (begin r records) w = along (IsOnce (begin r records)) (λ v h x o m. step_once pass stay (begin r records) v h x o m) (begun (begin r records)) order (record {
      sound = sound;
      passed = λ x h k d. absurd (nothing_did x h k d);
      back = λ h k l. l;
      to_do = λ x h k d. absurd (nothing_did x h k d);
      once = λ x y h k d u. absurd (nothing_did x h k d);
      left = λ h k t. inr t;
    }) w b.allowed in
    record { to_do = o.to_do; once = o.once; left = o.left }
