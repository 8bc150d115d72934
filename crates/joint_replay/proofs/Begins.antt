-- The lanes of a log in order.
use Rattle.joint_replay.proofs.Common.{◌≡◌, ℕ, zero, suc, ◌+◌, ◌^◌, ◌<◌, ◌≤◌, Bool, true, false, ◌&&◌, ◌||◌, ◌==◌, ◌⊎◌, inl, inr, nat_lt, refl, sym, ap, ◌∙◌, subst, arith, List, [], ◌∷◌, slice_get, replicate, length, Option, Some, None, Result, Ok, Err, if◌then◌else◌, list_any, eqb_tells, Program, EndMark, Record, Header, FirstLoad, ScOk, ScFailed, Edge, End, hart_of, bytes_of, total, OrderLimits, HartView, OrderBreak, is_number, is_unfinished, step, after_all, end_break, broken, broken_in, order_limits_of, order_break, Interval, interval_of, interval_from, puts, nothing, replayed, intervals_in, first_count, is_below, points_below, Cursor, Lane, with_cursor, cursors_of, lane_of, lanes_from, is_passed, RowsFrom, GoesOn, AreFrom, AreCursors, ArePoints, IsBelow, IsLane, Has, last_count, InCursors, HasEdge, Span, mark_of, spans, AreSpans, Fits, is_known, last_of, IsInside, OrderedLogsHaveShape, EdgesAreInside, PointsAscend, StartsAreSound, eq-eqb, lt-ltb, or_parts, RowsGoOn}
use Rattle.log_order.specs.declared.view.Phase.TheVariants.{Unknown}
use Rattle.log_order.specs.Rules.{fresh as fresh_view}
use Rattle.joint_replay.proofs.Onto.{ReplaysGoOn, replays_go_on}
use Rattle.joint_replay.proofs.Soundness.{get_other, some_is}
use Rattle.joint_replay.proofs.Shapes.{step_gives, placed}
use Rattle.joint_replay.proofs.LaneSteps.{above}
use Rattle.joint_replay.proofs.Walks.{undone}
use Rattle.joint_replay.proofs.Follows.{CountsGoUp, AsksPass}

-- ---- intervals by their numbers

apart : (a b : ℕ) → a < b → (a == b) ≡ false
apart a b h = grind arith

-- a cursor is of a span
pub record IsOf (i : Program) (s : Span) (c : Cursor) : Type 0 where
  pub begin : c.state.ic ≡ s.begin
  pub mark : c.mark ≡ s.mark
  pub rows : RowsFrom i c.mark.ic c.left.outcome c.state c.left.rows

abbrev pub AreOf : Program → List Span → List Cursor → Type 0
AreOf i [] [] = Unit {0}
AreOf i [] (c ∷ cs) = ⊥
AreOf i (s ∷ ss) [] = ⊥
AreOf i (s ∷ ss) (c ∷ cs) = IsOf i s c × AreOf i ss cs

module _ (i : Program) (records : List Record) (h limit : ℕ) (fits : limit < 2 ^ 64) (goes : ReplaysGoOn i records) where
  -- from a number on, intervals are found in these records
  abbrev From : ℕ → List Record → Type 0
  From low rs = (n : ℕ) → low ≤ n → interval_of h n records ≡ interval_of h n rs

  one_of : (n ic pc : ℕ) (x : List ℕ) (rs : List Record) (ss : List Span) (cs : List Cursor) (v : Interval) → interval_of h n records ≡ Some v → v.start.ic ≡ ic → v.mark ≡ mark_of h rs → v.mark.ic ≤ limit
      → AreOf i ss cs → AreOf i (record { number = n; begin = ic; mark = mark_of h rs } ∷ ss) (with_cursor (interval_of h n records) n (replayed i records h n) cs)
  one_of n ic pc x rs ss cs v found begin mark low are =
      subst (λ o. AreOf i (record { number = n; begin = ic; mark = mark_of h rs } ∷ ss) (with_cursor o n (replayed i records h n) cs)) (sym found)
      (record { begin = begin; mark = mark; rows = goes h n v found (omega (arith, low, fits)) }, are)

  are_of : (rs : List Record) (next : Option ℕ) (low begin : ℕ) → ((n : ℕ) → is_number next n ≡ true → low ≤ n) → From low rs → AreSpans limit next begin (spans h rs) → AreOf i (spans h rs) (cursors_of i records h (intervals_in h rs))
  are_of [] next low begin number from a = tt
  are_of (FirstLoad k skip value ∷ rs) next low begin number from a = are_of rs next low begin number from a
  are_of (ScOk k ∷ rs) next low begin number from a = are_of rs next low begin number from a
  are_of (ScFailed k ∷ rs) next low begin number from a = are_of rs next low begin number from a
  are_of (Edge k n s j ∷ rs) next low begin number from a = are_of rs next low begin number from a
  are_of (End k m ∷ rs) next low begin number from a = are_of rs next low begin number from a
  are_of (Header k n ic pc x ∷ rs) next low begin number from a = by (k == h) refl from a (λ next low begin number from a. are_of rs next low begin number from a)
    where
      by : (b : Bool) → (k == h) ≡ b
          → ((m : ℕ) → low ≤ m → interval_of h m records ≡ elim (b && (n == m)) as (λ y. Option Interval) [ true ↦ Some (interval_from (record { pc = pc; x = x; ic = ic }) (puts h rs nothing)) | false ↦ interval_of h m rs ])
          → AreSpans limit next begin (elim b as (λ y. List Span) [ true ↦ record { number = n; begin = ic; mark = mark_of h rs } ∷ spans h rs | false ↦ spans h rs ])
          → ((next : Option ℕ) (low begin : ℕ) → ((m : ℕ) → is_number next m ≡ true → low ≤ m) → From low rs → AreSpans limit next begin (spans h rs) → AreOf i (spans h rs) (cursors_of i records h (intervals_in h rs)))
          → AreOf i (elim b as (λ y. List Span) [ true ↦ record { number = n; begin = ic; mark = mark_of h rs } ∷ spans h rs | false ↦ spans h rs ]) (cursors_of i records h (elim b as (λ y. List ℕ) [ true ↦ n ∷ intervals_in h rs | false ↦ intervals_in h rs ]))
      by true e from a rest =
          let v : Interval = interval_from (record { pc = pc; x = x; ic = ic }) (puts h rs nothing) in
          let found : interval_of h n records ≡ Some v =
          from n (number n a.0) ∙ ap (λ b. elim b as (λ y. Option Interval) [ true ↦ Some (interval_from (record { pc = pc; x = x; ic = ic }) (puts h rs nothing)) | false ↦ interval_of h n rs ]) (eq-eqb n n refl) in
          one_of n ic pc x rs (spans h rs) (cursors_of i records h (intervals_in h rs)) v found refl refl a.3
          (rest (Some (n + 1)) (n + 1) (mark_of h rs).ic (λ m f. above m f)
          (λ m up. from m (let one = number n a.0 in omega (arith, one, up)) ∙ ap (λ b. elim b as (λ y. Option Interval) [ true ↦ Some (interval_from (record { pc = pc; x = x; ic = ic }) (puts h rs nothing)) | false ↦ interval_of h m rs ]) (apart n m (omega (arith, up))))
          a.4)
        where
          above : (m : ℕ) → (n + 1 == m) ≡ true → n + 1 ≤ m
          above m f = grind arith
      by false e from a rest = rest next low begin number from a

  -- spans one after another make cursors one after another
  cursors_are : (ss : List Span) (cs : List Cursor) (next : Option ℕ) (begin : ℕ) → AreSpans limit next begin ss → AreOf i ss cs → AreCursors i cs
  cursors_are [] [] next begin a o = tt
  cursors_are [] (c ∷ cs) next begin a o = absurd o
  cursors_are (s ∷ ss) [] next begin a o = absurd o
  cursors_are (s ∷ ss) (c ∷ cs) next begin a o = chain s ss c cs (a.2, a.4) o
    where
      low_of : (s : Span) (c : Cursor) → s.begin ≤ s.mark.ic → IsOf i s c → GoesOn i c
      low_of s c low o = (let b = o.begin in let m = ap (λ (e : EndMark). e.ic) o.mark in omega (arith, low, b, m), o.rows)

      chain : (s : Span) (ss : List Span) (c : Cursor) (cs : List Cursor) → (s.begin ≤ s.mark.ic) × AreSpans limit (Some (s.number + 1)) s.mark.ic ss → IsOf i s c × AreOf i ss cs → AreFrom i c cs
      chain s [] c [] a o = low_of s c a.0 o.0
      chain s [] c (d ∷ ds) a o = absurd o.1
      chain s (r ∷ rs) c [] a o = absurd o.1
      chain s (r ∷ rs) c (d ∷ ds) a o =
          (low_of s c a.0 o.0, o.1.0.begin ∙ a.1.1 ∙ sym (ap (λ (e : EndMark). e.ic) o.0.mark), chain r rs d ds (a.1.2, a.1.4) o.1)

  pub last_same : (s : Span) (ss : List Span) (c : Cursor) (cs : List Cursor) → IsOf i s c → AreOf i ss cs → last_count c cs ≡ last_of s.mark ss
  last_same s [] c [] o a = ap (λ (e : EndMark). e.ic) o.mark
  last_same s [] c (d ∷ ds) o a = absurd a
  last_same s (r ∷ rs) c [] o a = absurd a
  last_same s (r ∷ rs) c (d ∷ ds) o a = last_same r rs d ds a.0 a.1

-- the first span begins at the first Header's count
pub first_begin : (h : ℕ) (rs : List Record) → (s : Span) (ss : List Span) → spans h rs ≡ s ∷ ss → first_count h rs ≡ Some s.begin
first_begin h [] s ss e = cc
first_begin h (FirstLoad k skip value ∷ rs) s ss e = first_begin h rs s ss e
first_begin h (ScOk k ∷ rs) s ss e = first_begin h rs s ss e
first_begin h (ScFailed k ∷ rs) s ss e = first_begin h rs s ss e
first_begin h (Edge k n a j ∷ rs) s ss e = first_begin h rs s ss e
first_begin h (End k m ∷ rs) s ss e = first_begin h rs s ss e
first_begin h (Header k n ic pc x ∷ rs) s ss e = by (k == h) e (first_begin h rs s ss)
  where
    by : (b : Bool) → elim b as (λ y. List Span) [ true ↦ record { number = n; begin = ic; mark = mark_of h rs } ∷ spans h rs | false ↦ spans h rs ] ≡ s ∷ ss
        → (spans h rs ≡ s ∷ ss → first_count h rs ≡ Some s.begin) → elim b as (λ y. Option ℕ) [ true ↦ Some ic | false ↦ first_count h rs ] ≡ Some s.begin
    by true e rest = ap (λ n. Some n) (let one : ◌≡◌ {A = Span} (record { number = n; begin = ic; mark = mark_of h rs }) s = head (record { number = n; begin = ic; mark = mark_of h rs }) s (spans h rs) ss e in ap (λ (t : Span). t.begin) one)
      where
        head : (a b : Span) (xs ys : List Span) → ◌≡◌ {A = List Span} (a ∷ xs) (b ∷ ys) → a ≡ b
        head a b xs ys e = cc
    by false e rest = rest e

pub no_begin : (h : ℕ) (rs : List Record) → spans h rs ≡ [] → first_count h rs ≡ None
no_begin h [] e = refl
no_begin h (FirstLoad k skip value ∷ rs) e = no_begin h rs e
no_begin h (ScOk k ∷ rs) e = no_begin h rs e
no_begin h (ScFailed k ∷ rs) e = no_begin h rs e
no_begin h (Edge k n a j ∷ rs) e = no_begin h rs e
no_begin h (End k m ∷ rs) e = no_begin h rs e
no_begin h (Header k n ic pc x ∷ rs) e = by (k == h) e (no_begin h rs)
  where
    by : (b : Bool) → elim b as (λ y. List Span) [ true ↦ record { number = n; begin = ic; mark = mark_of h rs } ∷ spans h rs | false ↦ spans h rs ] ≡ []
        → (spans h rs ≡ [] → first_count h rs ≡ None) → elim b as (λ y. Option ℕ) [ true ↦ Some ic | false ↦ first_count h rs ] ≡ None
    by true e rest = cc
    by false e rest = rest e

-- ---- the harts of the walk

pub lane_at : (i : Program) (records : List Record) (v : HartView) (n k h : ℕ) (lane : Lane) → slice_get (lanes_from i records k n) h ≡ Some lane
    → (lane_of i records (k + h) ≡ lane) × (slice_get (replicate n v) h ≡ Some v)
lane_at i records v zero k h lane e = cc
lane_at i records v (suc n) k zero lane e = (let same : k + 0 ≡ k = omega arith in ap (lane_of i records) same ∙ some_is (lane_of i records k) lane (Some (lane_of i records k)) refl e, refl)
lane_at i records v (suc n) k (suc h) lane e =
    let rest = lane_at i records v n (k + 1) h lane e in
    let same : k + suc h ≡ k + 1 + h = omega arith in
    (ap (lane_of i records) same ∙ rest.0, rest.1)

pub lane_for : (i : Program) (records : List Record) (v w : HartView) (n k h : ℕ) → slice_get (replicate n v) h ≡ Some w → (lane : Lane) × (slice_get (lanes_from i records k n) h ≡ Some lane)
lane_for i records v w zero k h e = cc
lane_for i records v w (suc n) k zero e = (lane_of i records k, refl)
lane_for i records v w (suc n) k (suc h) e = lane_for i records v w n (k + 1) h e

edges_there : (t : OrderLimits) (place : ℕ) (harts ends : List HartView) (rs : List Record) (h ic s j : ℕ) → after_all t place harts rs ≡ Ok ends → HasEdge rs h ic s j → (v : HartView) × (slice_get harts h ≡ Some v)
unfolding after_all
edges_there t place harts ends [] h ic s j e edge = absurd edge
edges_there t place harts ends (r ∷ rs) h ic s j e edge =
    let g = placed place (step t harts r) (λ next. after_all t (place + length (bytes_of r)) next rs) ends e in
    let gives = step_gives t harts g.0 r g.1 in
    by r edge gives.at
    (λ later. elim (eqb_tells (hart_of r) h) [
      | inl same ↦ (gives.old, subst (λ k. slice_get harts k ≡ Some gives.old) same.1 gives.at)
      | inr other ↦ (let rest = edges_there t (place + length (bytes_of r)) g.0 ends rs h ic s j g.2 later in (rest.0, sym (get_other harts (hart_of r) h gives.new other.1) ∙ (ap (λ hs. slice_get hs h) (sym gives.is) ∙ rest.1)))
    ])
  where
    by : {old : HartView} (r : Record) → HasEdge (r ∷ rs) h ic s j → slice_get harts (hart_of r) ≡ Some old → (HasEdge rs h ic s j → (v : HartView) × (slice_get harts h ≡ Some v)) → (v : HartView) × (slice_get harts h ≡ Some v)
    by (Header k n c pc x) edge at rest = rest edge
    by (FirstLoad k skip value) edge at rest = rest edge
    by (ScOk k) edge at rest = rest edge
    by (ScFailed k) edge at rest = rest edge
    by {old = old} (Edge k n a b) (inl edge) at rest = (old, subst (λ m. slice_get harts m ≡ Some old) edge.0 at)
    by (Edge k n a b) (inr edge) at rest = rest edge
    by (End k m) edge at rest = rest edge

pub not_any : (p : HartView → Bool) (xs : List HartView) (h : ℕ) (w : HartView) → list_any p xs ≡ false → slice_get xs h ≡ Some w → p w ≡ false
not_any p [] h w e f = cc
not_any p (x ∷ xs) zero w e f = subst (λ y. p y ≡ false) (some_is x w (Some x) refl f) ((or_parts (p x) (list_any p xs) e).0)
not_any p (x ∷ xs) (suc h) w e f = not_any p xs h w ((or_parts (p x) (list_any p xs) e).1) f

all_ended : (all : Bool) (ends : List HartView) (rs : List Record) → end_break all ends rs ≡ None → list_any (is_unfinished all) ends ≡ false
unfolding end_break
all_ended all ends rs e = by _ (list_any (is_unfinished all) ends) e
  where
    by : (x : Option OrderBreak) (b : Bool) → (if b then Some (order_break (total rs) 6) else x) ≡ None → b ≡ false
    by x true e = cc
    by x false e = refl

walked : (all : Bool) (rs : List Record) (x : Result (List HartView) OrderBreak) → broken_in all rs x ≡ None → (ends : List HartView) × (x ≡ Ok ends) × (list_any (is_unfinished all) ends ≡ false)
walked all rs (Err b) e = cc
walked all rs (Ok ends) e = (ends, refl, all_ended all ends rs e)

pub walk_of : (t : OrderLimits) (count : ℕ) (all : Bool) (rs : List Record) → broken t count all rs ≡ None → (ends : List HartView) × (after_all t 0 (replicate count (fresh_view all)) rs ≡ Ok ends) × (list_any (is_unfinished all) ends ≡ false)
unfolding broken
walk_of t count all rs e = walked all rs (after_all t 0 (replicate count (fresh_view all)) rs) e

-- ---- one hart

pub fresh_known : (all : Bool) → is_known (fresh_view all).phase ≡ true → (all || (fresh_view all).met) ≡ true
fresh_known true e = refl
fresh_known false e = cc

module _ (i : Program) (records : List Record) (h limit : ℕ) (fits : limit < 2 ^ 64) (goes : ReplaysGoOn i records) (points : PointsAscend) where
  spans_are : (all : Bool) → Fits limit (fresh_view all).phase (mark_of h records) (spans h records) → (next : Option ℕ) × (begin : ℕ) × AreSpans limit next begin (spans h records)
  spans_are true f = (Some 0, 0, f)
  spans_are false f = by (spans h records) f
    where
      by : (ss : List Span) → Fits limit Unknown (mark_of h records) ss → (next : Option ℕ) × (begin : ℕ) × AreSpans limit next begin ss
      by [] f = (None, 0, tt)
      by (s ∷ ss) f = (None, s.begin, f)

  pub cursors_of_spans : (all : Bool) → Fits limit (fresh_view all).phase (mark_of h records) (spans h records) → AreOf i (spans h records) (cursors_of i records h (intervals_in h records)) × AreCursors i (cursors_of i records h (intervals_in h records))
  cursors_of_spans all f =
      let a = spans_are all f in
      let are = are_of i records h limit fits goes records a.0 0 a.1 (λ n e. omega arith) (λ n low. refl) a.2 in
      (are, cursors_are i records h limit fits goes (spans h records) (cursors_of i records h (intervals_in h records)) a.0 a.1 a.2 are)

  below_are : (ss : List Span) (cs : List Cursor) → spans h records ≡ ss → AreOf i ss cs → (n : ℕ) → is_below (first_count h records) n ≡ true → IsBelow n cs
  below_are [] [] e a n b = tt
  below_are [] (c ∷ cs) e a n b = absurd a
  below_are (s ∷ ss) [] e a n b = absurd a
  below_are (s ∷ ss) (c ∷ cs) e a n b =
      let low : nat_lt n s.begin ≡ true = ap (λ o. is_below o n) (sym (first_begin h records s ss e)) ∙ b in
      let begin = a.0.begin in true_below n s.begin c.state.ic low begin
    where
      true_below : (n b c : ℕ) → nat_lt n b ≡ true → c ≡ b → n < c
      true_below n b c e f = grind arith

  lane_is : (all : Bool) → Fits limit (fresh_view all).phase (mark_of h records) (spans h records) → IsLane i (lane_of i records h)
  lane_is all f =
      let are = cursors_of_spans all f in
      record {
        points = points.ascend (first_count h records) h records (cursors_of i records h (intervals_in h records)) (below_are (spans h records) (cursors_of i records h (intervals_in h records)) refl are.0);
        cursors = are.1;
      }

  placed_at : (all : Bool) (ss : List Span) (cs : List Cursor) (ic : ℕ) → spans h records ≡ ss → AreOf i ss cs → Fits limit (fresh_view all).phase (mark_of h records) ss → IsInside (fresh_view all).phase (mark_of h records) ss ic → (is_below (first_count h records) ic ≡ true) ⊎ InCursors cs ic
  placed_at true [] cs ic e a f inside = absurd inside
  placed_at false [] cs ic e a f inside = inl (ap (λ o. is_below o ic) (no_begin h records e))
  placed_at all (s ∷ ss) [] ic e a f inside = absurd a
  placed_at true (s ∷ ss) (c ∷ cs) ic e a f inside =
      let begin = a.0.begin in let first = f.1 in inr (omega (arith, begin, first), subst (λ n. ic < n) (sym (last_same i records h limit fits goes s ss c cs a.0 a.1)) inside.1)
  placed_at false (s ∷ ss) (c ∷ cs) ic e a f (inl low) = inl (ap (λ o. is_below o ic) (first_begin h records s ss e) ∙ lt-ltb ic s.begin low)
  placed_at false (s ∷ ss) (c ∷ cs) ic e a f (inr inside) =
      let begin = a.0.begin in let low = inside.0 in inr (omega (arith, begin, low), subst (λ n. ic < n) (sym (last_same i records h limit fits goes s ss c cs a.0 a.1)) inside.1)

  on_way : (all : Bool) (ic s j : ℕ) → Fits limit (fresh_view all).phase (mark_of h records) (spans h records) → IsInside (fresh_view all).phase (mark_of h records) (spans h records) ic → HasEdge records h ic s j
      → Has (points_below (first_count h records) h records) ic ⊎ InCursors (cursors_of i records h (intervals_in h records)) ic
  on_way all ic s j f inside edge = elim (placed_at all (spans h records) (cursors_of i records h (intervals_in h records)) ic refl (cursors_of_spans all f).0 f inside) [
    | inl low ↦ inl (points.targets (first_count h records) h ic s j records edge low)
    | inr there ↦ inr there
  ]

-- what is still to be passed isn't passed
pub unpassed : (i : Program) (points : List ℕ) (cursors : List Cursor) (k : ℕ) → ArePoints points cursors → AreCursors i cursors → is_passed (Some (record { points = points; cursors = cursors })) k ≡ true → Has points k → ⊥
unpassed i [] cursors k a c e h = absurd h
unpassed i (p ∷ ps) cursors k a c e (inl same) = below p k same e
  where
    below : (p k : ℕ) → p ≡ k → nat_lt k p ≡ true → ⊥
    below p k e f = grind arith
unpassed i (p ∷ ps) cursors k a c e (inr h) = let up = above i p ps cursors k a h in below p k up e
  where
    below : (p k : ℕ) → p < k → nat_lt k p ≡ true → ⊥
    below p k e f = grind arith

pub starts_sound : OrderedLogsHaveShape → EdgesAreInside → PointsAscend → CountsGoUp → AsksPass → RowsGoOn → StartsAreSound
starts_sound shape inside points counted asks rows i s dropped records low order =
    let goes : ReplaysGoOn i records = replays_go_on counted asks rows i records in
    let all = dropped == 0 in
    let t = order_limits_of s in
    let harts = replicate s.harts (fresh_view (dropped == 0)) in
    let w = walk_of (order_limits_of s) s.harts (dropped == 0) records order in
    let over : (h : ℕ) (x : HartView) → slice_get w.0 h ≡ Some x → is_unfinished (dropped == 0) x ≡ false = λ h x e. not_any (is_unfinished (dropped == 0)) w.0 h x w.2 e in
    let fits : (h : ℕ) → slice_get (replicate s.harts (fresh_view (dropped == 0))) h ≡ Some (fresh_view (dropped == 0)) → Fits s.limit (fresh_view (dropped == 0)).phase (mark_of h records) (spans h records) =
    λ h at. shape (order_limits_of s) (dropped == 0) 0 (replicate s.harts (fresh_view (dropped == 0))) w.0 records w.1 h (fresh_view (dropped == 0)) at (fresh_known (dropped == 0)) (over h) in
    let lane_ok : (h : ℕ) (lane : Lane) → slice_get (lanes_from i records 0 s.harts) h ≡ Some lane → IsLane i lane =
    λ h lane e. (let l = lane_at i records (fresh_view (dropped == 0)) s.harts 0 h lane e in let same : 0 + h ≡ h = omega arith in
    subst (IsLane i) (ap (lane_of i records) (sym same) ∙ l.0) (lane_is i records h s.limit low goes points (dropped == 0) (fits h l.1))) in
    let way : (h ic a j : ℕ) (lane : Lane) → HasEdge records h ic a j → slice_get (lanes_from i records 0 s.harts) h ≡ Some lane → Has lane.points ic ⊎ InCursors lane.cursors ic =
    λ h ic a j lane edge e. (let l = lane_at i records (fresh_view (dropped == 0)) s.harts 0 h lane e in let same : 0 + h ≡ h = omega arith in
    subst (λ (x : Lane). Has x.points ic ⊎ InCursors x.cursors ic) (ap (lane_of i records) (sym same) ∙ l.0)
    (on_way i records h s.limit low goes points (dropped == 0) ic a j (fits h l.1)
    (inside (order_limits_of s) (dropped == 0) 0 (replicate s.harts (fresh_view (dropped == 0))) w.0 records w.1 h (fresh_view (dropped == 0)) l.1 (fresh_known (dropped == 0)) (over h) ic a j edge) edge)) in
    record {
      lanes = lane_ok;
      there = λ h ic a j edge. (let v = edges_there (order_limits_of s) 0 (replicate s.harts (fresh_view (dropped == 0))) w.0 records h ic a j w.1 edge in lane_for i records (fresh_view (dropped == 0)) v.0 s.harts 0 h v.1);
      on = λ h ic a j lane edge e. inr (way h ic a j lane edge e);
      closed = λ h ic a j lane edge e passed. elim (way h ic a j lane edge e) [
        | inl has ↦ absurd (unpassed i lane.points lane.cursors ic (lane_ok h lane e).points (lane_ok h lane e).cursors passed has)
        | inr there ↦ absurd (undone i lane.points lane.cursors ic (lane_ok h lane e).points (lane_ok h lane e).cursors passed there)
      ];
    }
