-- The sources of Edges in a log in order: below the hart's first Header, or below its last End.
use Rattle.joint_replay.proofs.Common.{◌≡◌, ℕ, zero, suc, ◌+◌, ◌<◌, ◌^◌, Bool, true, false, not, ◌&&◌, ◌||◌, ◌==◌, ◌⊎◌, inl, inr, nat_lt, refl, sym, ap, ◌∙◌, subst, arith, List, [], ◌∷◌, length, replicate, slice_get, slice_set, Option, Some, None, Result, Ok, Err, if◌then◌else◌, list_any, option_map, eqb_tells, Program, EndMark, Record, Header, FirstLoad, ScOk, ScFailed, Edge, End, hart_of, bytes_of, total, OrderLimits, HartView, Phase, takes_header, takes_other, goes_on, phase_after, after_one, is_done, is_unfinished, ◌>>=◌, has_source, step_at, step, after_all, is_from, is_past, is_late, late_edge, end_break as ended_by, broken, broken_in, order_limits_of, order_break, puts, nothing, Logged, intervals_in, first_count, is_below, points_below, Cursor, Lane, cursors_of, lane_of, Has, InCursors, HasEdge, Span, mark_of, spans, Fits, is_known, last_of, OrderedLogsHaveShape, PointsAscend, SourcesAreThere, and_parts, cases_lt, leb-false, lt-ltb, ltb-true, or-true, RowsGoOn}
use Rattle.log_order.specs.declared.view.Phase.TheVariants.{Unknown, Awaiting, Open, Done}
use Rattle.log_order.specs.Rules.{fresh as fresh_view}
use Rattle.joint_replay.proofs.Onto.{ReplaysGoOn, replays_go_on}
use Rattle.joint_replay.proofs.Soundness.{get_other}
use Rattle.joint_replay.proofs.Shapes.{◌>>◌, own_walk, ok_is, goes_through, headed, other, edged, ended, Same, loads_same, ok_same, failed_same, others_same, project, fit, step_gives, placed, unfinished, met_of}
use Rattle.joint_replay.proofs.PointLists.{sources}
use Rattle.joint_replay.proofs.Begins.{AreOf, last_same, first_begin, no_begin, lane_at, lane_for, cursors_of_spans, not_any, walk_of, fresh_known}
use Rattle.joint_replay.proofs.Follows.{CountsGoUp, AsksPass}

-- ---- the last End's count is that of the last interval

-- what the count of the hart's last End, at the end, is by its phase before these records
abbrev LastIs : Phase → EndMark → List Span → Option ℕ → Option ℕ → Type 0
LastIs Unknown m [] last final = Unit {0}
LastIs Unknown m (s ∷ ss) last final = final ≡ Some (last_of s.mark ss)
LastIs (Awaiting next begin) m [] last final = final ≡ last
LastIs (Awaiting next begin) m (s ∷ ss) last final = final ≡ Some (last_of s.mark ss)
LastIs (Open next since) m ss last final = final ≡ Some (last_of m ss)
LastIs Done m ss last final = final ≡ last

header_last : (p : Phase) (n ic : ℕ) (old m : EndMark) (ss : List Span) (last final : Option ℕ) → takes_header p ≡ true → final ≡ Some (last_of m ss) → LastIs p old (record { number = n; begin = ic; mark = m } ∷ ss) last final
header_last Unknown n ic old m ss last final t e = e
header_last (Awaiting next begin) n ic old m ss last final t e = e
header_last (Open next since) n ic old m ss last final t e = cc
header_last Done n ic old m ss last final t e = cc

-- in phases that take other records, the count so far says nothing
free_last : (p : Phase) (m : EndMark) (ss : List Span) (a b final : Option ℕ) → takes_other p ≡ true → LastIs p m ss a final → LastIs p m ss b final
free_last Unknown m [] a b final t e = tt
free_last Unknown m (s ∷ ss) a b final t e = e
free_last (Awaiting next begin) m ss a b final t e = absurd (never t)
  where
    never : false ≡ true → ⊥
    never e = cc
free_last (Open next since) m ss a b final t e = e
free_last Done m ss a b final t e = absurd (never t)
  where
    never : false ≡ true → ⊥
    never e = cc

no_spans : (s : Span) (ss : List Span) → ◌≡◌ {A = List Span} (s ∷ ss) [] → ⊥
no_spans s ss e = cc

module _ (limit : ℕ) where
  end_last : (p : Phase) (m late : EndMark) (ss : List Span) (last final : Option ℕ) → takes_other p ≡ true → Fits limit (phase_after p m) late ss → LastIs (phase_after p m) late ss (Some m.ic) final → LastIs p m ss last final
  end_last Unknown m late [] last final t f e = tt
  end_last Unknown m late (s ∷ ss) last final t f e = by (goes_on m.reason) f e
    where
      by : (b : Bool) → Fits limit (if b then Awaiting None m.ic else Done) late (s ∷ ss) → LastIs (if b then Awaiting None m.ic else Done) late (s ∷ ss) (Some m.ic) final → final ≡ Some (last_of s.mark ss)
      by true f e = e
      by false f e = absurd (no_spans s ss f)
  end_last (Awaiting next begin) m late ss last final t f e = absurd (never t)
    where
      never : false ≡ true → ⊥
      never e = cc
  end_last (Open next since) m late ss last final t f e = by ss (goes_on m.reason) f e
    where
      by : (ss : List Span) (b : Bool) → Fits limit (if b then Awaiting (Some next) m.ic else Done) late ss → LastIs (if b then Awaiting (Some next) m.ic else Done) late ss (Some m.ic) final → final ≡ Some (last_of m ss)
      by [] true f e = e
      by (s ∷ ss) true f e = e
      by [] false f e = e
      by (s ∷ ss) false f e = absurd (no_spans s ss f)
  end_last Done m late ss last final t f e = absurd (never t)
    where
      never : false ≡ true → ⊥
      never e = cc

module _ (t : OrderLimits) (all : Bool) (h : ℕ) (w : HartView) (over : is_unfinished all w ≡ false) where
  at_nothing : (p : Phase) (met : Bool) (last : Option ℕ) → (is_known p ≡ true → (all || met) ≡ true) → ((all || met) && not (is_done p)) ≡ false → LastIs p (mark_of h []) [] last last
  at_nothing Unknown met last k e = tt
  at_nothing (Awaiting next begin) met last k e = refl
  at_nothing (Open next since) met last k e = absurd (unfinished (all || met) (k refl) e)
  at_nothing Done met last k e = refl

  -- by a record that changes neither mark nor intervals
  same_last : (v u : HartView) (r : Record) (rs : List Record) → takes_other v.phase ≡ true → u.phase ≡ v.phase → Same h r rs → LastIs u.phase (mark_of h rs) (spans h rs) u.last w.last
      → LastIs v.phase (mark_of h (r ∷ rs)) (spans h (r ∷ rs)) v.last w.last
  same_last v u r rs takes phase same k =
      subst (λ m. LastIs v.phase m (spans h (r ∷ rs)) v.last w.last) (sym same.0)
      (subst (λ ss. LastIs v.phase (mark_of h rs) ss v.last w.last) (sym same.1)
      (free_last v.phase (mark_of h rs) (spans h rs) u.last v.last w.last takes (subst (λ p. LastIs p (mark_of h rs) (spans h rs) u.last w.last) phase k)))

  by_record : (r : Record) (rs : List Record) (v u : HartView) → (hart_of r == h) ≡ true → after_one t v r ≡ Ok u → Fits t.limit u.phase (mark_of h rs) (spans h rs)
      → LastIs u.phase (mark_of h rs) (spans h rs) u.last w.last → LastIs v.phase (mark_of h (r ∷ rs)) (spans h (r ∷ rs)) v.last w.last
  by_record (Header k n ic pc x) rs v u own e f is =
      let d = headed t v u n ic e in
      subst (λ b. LastIs v.phase (mark_of h rs) (elim b as (λ y. List Span) [ true ↦ record { number = n; begin = ic; mark = mark_of h rs } ∷ spans h rs | false ↦ spans h rs ]) v.last w.last) (sym own)
      (header_last v.phase n ic (mark_of h rs) (mark_of h rs) (spans h rs) v.last w.last d.takes (subst (λ p. LastIs p (mark_of h rs) (spans h rs) u.last w.last) d.phase is))
  by_record (FirstLoad k skip value) rs v u own e f is = let d = other v u e in same_last v u (FirstLoad k skip value) rs d.takes d.phase (loads_same h k skip value rs) is
  by_record (ScOk k) rs v u own e f is = let d = other v u e in same_last v u (ScOk k) rs d.takes d.phase (ok_same h k rs) is
  by_record (ScFailed k) rs v u own e f is = let d = other v u e in same_last v u (ScFailed k) rs d.takes d.phase (failed_same h k rs) is
  by_record (Edge k n a b) rs v u own e f is = let d = (edged t v u n b e).stays in same_last v u (Edge k n a b) rs d.takes d.phase (refl, refl) is
  by_record (End k m) rs v u own e f is =
      let d = ended t v u m e in
      subst (λ b. LastIs v.phase (elim b as (λ y. Logged) [ true ↦ record { loads = []; conditionals = []; mark = m } | false ↦ puts h rs nothing ]).mark (spans h rs) v.last w.last) (sym own)
      (end_last t.limit v.phase m (mark_of h rs) (spans h rs) v.last w.last d.takes (subst (λ p. Fits t.limit p (mark_of h rs) (spans h rs)) d.phase f)
      (subst (λ o. LastIs (phase_after v.phase m) (mark_of h rs) (spans h rs) o w.last) d.last (subst (λ p. LastIs p (mark_of h rs) (spans h rs) u.last w.last) d.phase is)))

  last_by : (v : HartView) (rs : List Record) → (is_known v.phase ≡ true → (all || v.met) ≡ true) → own_walk t h v rs ≡ Ok w → LastIs v.phase (mark_of h rs) (spans h rs) v.last w.last
  last_by v [] k e =
      subst (λ (x : HartView). LastIs v.phase (mark_of h []) [] v.last x.last) (ok_is v w e)
      (at_nothing v.phase v.met v.last k (ap (λ (x : HartView). is_unfinished all x) (ok_is v w e) ∙ over))
  last_by v (r ∷ rs) k e = by (hart_of r == h) refl e (λ u known walked. last_by u rs known walked)
    where
      by : (b : Bool) → (hart_of r == h) ≡ b → elim b as (λ x. Result HartView ℕ) [ true ↦ after_one t v r >> (λ u. own_walk t h u rs) | false ↦ own_walk t h v rs ] ≡ Ok w
          → ((u : HartView) → (is_known u.phase ≡ true → (all || u.met) ≡ true) → own_walk t h u rs ≡ Ok w → LastIs u.phase (mark_of h rs) (spans h rs) u.last w.last)
          → LastIs v.phase (mark_of h (r ∷ rs)) (spans h (r ∷ rs)) v.last w.last
      by true own f rest =
          let g = goes_through (after_one t v r) (λ u. own_walk t h u rs) w f in
          let known : is_known g.0.phase ≡ true → (all || g.0.met) ≡ true = λ x. ap (λ b. all || b) (met_of t r v g.0 g.1) ∙ or-true all in
          by_record r rs v g.0 own g.1 (fit t all h w over g.0 rs known g.2) (rest g.0 known g.2)
      by false apart f rest =
          let same = others_same h r rs apart in
          subst (λ m. LastIs v.phase m (spans h (r ∷ rs)) v.last w.last) (sym same.0) (subst (λ ss. LastIs v.phase (mark_of h rs) ss v.last w.last) (sym same.1) (rest v k f))

-- ---- no Edge is late

late_none : (harts : List HartView) (place : ℕ) (rs : List Record) (h ic s j : ℕ) → late_edge harts place rs ≡ None → HasEdge rs h ic s j → is_past (slice_get harts s) j ≡ false
unfolding late_edge
late_none harts place [] h ic s j e edge = absurd edge
late_none harts place (r ∷ rs) h ic s j e edge = by (is_late harts r) refl e (λ f later. late_none harts (place + length (bytes_of r)) rs h ic s j f later)
  where
    here : (r : Record) → is_late harts r ≡ false → HasEdge (r ∷ rs) h ic s j → (HasEdge rs h ic s j → is_past (slice_get harts s) j ≡ false) → is_past (slice_get harts s) j ≡ false
    here (Header k n c pc x) i edge rest = rest edge
    here (FirstLoad k skip value) i edge rest = rest edge
    here (ScOk k) i edge rest = rest edge
    here (ScFailed k) i edge rest = rest edge
    here (Edge k n a b) i (inl edge) rest = ap (λ c. is_past (slice_get harts s) c) (sym edge.3) ∙ ap (λ c. is_past (slice_get harts c) b) (sym edge.2) ∙ i
    here (Edge k n a b) i (inr edge) rest = rest edge
    here (End k m) i edge rest = rest edge

    by : (b : Bool) → is_late harts r ≡ b → (if b then Some place else late_edge harts (place + length (bytes_of r)) rs) ≡ None
        → (late_edge harts (place + length (bytes_of r)) rs ≡ None → HasEdge rs h ic s j → is_past (slice_get harts s) j ≡ false) → is_past (slice_get harts s) j ≡ false
    by true i f rest = absurd (never place f)
      where
        never : (n : ℕ) → ◌≡◌ {A = Option ℕ} (Some n) None → ⊥
        never n e = cc
    by false i f rest = here r i edge (rest f)

none_late : (all : Bool) (ends : List HartView) (rs : List Record) → ended_by all ends rs ≡ None → late_edge ends 0 rs ≡ None
unfolding ended_by
none_late all ends rs e = by (list_any (is_unfinished all) ends) e
  where
    mapped : (o : Option ℕ) → option_map (λ place. order_break place 7) o ≡ None → o ≡ None
    mapped None e = refl
    mapped (Some n) e = cc

    by : (b : Bool) → (if b then Some (order_break (total rs) 6) else option_map (λ place. order_break place 7) (late_edge ends 0 rs)) ≡ None → late_edge ends 0 rs ≡ None
    by true e = cc
    by false e = mapped (late_edge ends 0 rs) e

ended_none : (t : OrderLimits) (count : ℕ) (all : Bool) (rs : List Record) (ends : List HartView) → after_all t 0 (replicate count (fresh_view all)) rs ≡ Ok ends → broken t count all rs ≡ None → ended_by all ends rs ≡ None
unfolding broken
ended_none t count all rs ends walk e = sym (ap (broken_in all rs) walk) ∙ e

-- ---- each source is a hart

low_get : {X : Type 0} (xs : List X) (s : ℕ) → s < length xs → (x : X) × (slice_get xs s ≡ Some x)
low_get [] s low = absurd (omega (arith, low))
low_get (x ∷ xs) zero low = (x, refl)
low_get (x ∷ xs) (suc s) low = low_get xs s (omega (arith, low))

sourced : (t : OrderLimits) (harts next : List HartView) (r : Record) → step t harts r ≡ Ok next → has_source (length harts) r ≡ true
unfolding step
sourced t harts next r e = by (slice_get harts (hart_of r)) e
  where
    so : (v : HartView) (b : Bool) → (if b then (after_one t v r >>= λ w. Ok (slice_set harts (hart_of r) w)) else Err 1) ≡ Ok next → b ≡ true
    so v true f = refl
    so v false f = cc

    by : (o : Option HartView) → step_at t harts r o ≡ Ok next → has_source (length harts) r ≡ true
    by None f = cc
    by (Some v) f = so v (has_source (length harts) r) f

sources_known : (t : OrderLimits) (place : ℕ) (harts ends : List HartView) (rs : List Record) (h ic s j : ℕ) → after_all t place harts rs ≡ Ok ends → HasEdge rs h ic s j → (v : HartView) × (slice_get harts s ≡ Some v)
unfolding after_all
sources_known t place harts ends [] h ic s j e edge = absurd edge
sources_known t place harts ends (r ∷ rs) h ic s j e edge =
    let g = placed place (step t harts r) (λ next. after_all t (place + length (bytes_of r)) next rs) ends e in
    let gives = step_gives t harts g.0 r g.1 in
    by r edge (sourced t harts g.0 r g.1)
    (λ later. elim (eqb_tells (hart_of r) s) [
      | inl same ↦ (gives.old, subst (λ k. slice_get harts k ≡ Some gives.old) same.1 gives.at)
      | inr apart ↦ (let rest = sources_known t (place + length (bytes_of r)) g.0 ends rs h ic s j g.2 later in (rest.0, sym (get_other harts (hart_of r) s gives.new apart.1) ∙ (ap (λ hs. slice_get hs s) (sym gives.is) ∙ rest.1)))
    ])
  where
    by : (r : Record) → HasEdge (r ∷ rs) h ic s j → has_source (length harts) r ≡ true → (HasEdge rs h ic s j → (v : HartView) × (slice_get harts s ≡ Some v)) → (v : HartView) × (slice_get harts s ≡ Some v)
    by (Header k n c pc x) edge has rest = rest edge
    by (FirstLoad k skip value) edge has rest = rest edge
    by (ScOk k) edge has rest = rest edge
    by (ScFailed k) edge has rest = rest edge
    by (Edge k n a b) (inl edge) has rest = low_get harts s (subst (λ m. m < length harts) edge.2 (ltb-true a (length harts) ((and_parts (nat_lt a (length harts)) (not (a == k)) has).0)))
    by (Edge k n a b) (inr edge) has rest = rest edge
    by (End k m) edge has rest = rest edge

-- ---- the place of a source

not_past : (o : Option HartView) (w : HartView) (n j : ℕ) → o ≡ Some w → w.last ≡ Some n → is_past o j ≡ false → j < n
not_past o w n j at last e = leb-false n j (sym (ap (λ x. is_from x j) last) ∙ sym (ap (λ x. is_past x j) at) ∙ e)

module _ (i : Program) (records : List Record) (s limit : ℕ) (low : limit < 2 ^ 64) (goes : ReplaysGoOn i records) (points : PointsAscend) (all : Bool) where
  -- by what is known at the end
  known_last : (ss : List Span) (last final : Option ℕ) (a : Span) (m : EndMark) → LastIs (fresh_view all).phase m (a ∷ ss) last final → final ≡ Some (last_of a.mark ss)
  known_last ss last final a m e = by all e
    where
      by : (b : Bool) → LastIs (fresh_view b).phase m (a ∷ ss) last final → final ≡ Some (last_of a.mark ss)
      by true e = e
      by false e = e

  source_placed : (h ic j : ℕ) (w : HartView) (o : Option HartView) → o ≡ Some w → HasEdge records h ic s j → is_past o j ≡ false → Fits limit (fresh_view all).phase (mark_of s records) (spans s records)
      → LastIs (fresh_view all).phase (mark_of s records) (spans s records) (fresh_view all).last w.last
      → Has (points_below (first_count s records) s records) j ⊎ InCursors (cursors_of i records s (intervals_in s records)) j
  source_placed h ic j w o at edge past f is = by (spans s records) (cursors_of i records s (intervals_in s records)) refl (cursors_of_spans i records s limit low goes points all f).0 is
    where
      by : (ss : List Span) (cs : List Cursor) → spans s records ≡ ss → AreOf i ss cs → LastIs (fresh_view all).phase (mark_of s records) ss (fresh_view all).last w.last
          → Has (points_below (first_count s records) s records) j ⊎ InCursors cs j
      by [] cs e a l = inl (sources (first_count s records) h ic s j records edge (ap (λ x. is_below x j) (no_begin s records e)))
      by (x ∷ xs) [] e a l = absurd a
      by (x ∷ xs) (c ∷ cs) e a l = elim (cases_lt j x.begin) [
        | inl less ↦ inl (sources (first_count s records) h ic s j records edge (ap (λ y. is_below y j) (first_begin s records x xs e) ∙ lt-ltb j x.begin less))
        | inr from ↦ inr (
          let begin = a.0.begin in omega (arith, begin, from),
          subst (λ n. j < n) (sym (last_same i records s limit low goes x xs c cs a.0 a.1)) (not_past o w (last_of x.mark xs) j at (known_last xs (fresh_view all).last w.last x (mark_of s records) l) past),
        )
      ]

pub sources_are_there : OrderedLogsHaveShape → PointsAscend → CountsGoUp → AsksPass → RowsGoOn → SourcesAreThere
sources_are_there shape points counted asks rows i b dropped records low order h ic s j edge =
    let all = dropped == 0 in
    let w = walk_of (order_limits_of b) b.harts (dropped == 0) records order in
    let over : (h : ℕ) (x : HartView) → slice_get w.0 h ≡ Some x → is_unfinished (dropped == 0) x ≡ false = λ h x e. not_any (is_unfinished (dropped == 0)) w.0 h x w.2 e in
    let v = sources_known (order_limits_of b) 0 (replicate b.harts (fresh_view (dropped == 0))) w.0 records h ic s j w.1 edge in
    let l = lane_for i records (fresh_view (dropped == 0)) v.0 b.harts 0 s v.1 in
    let at = lane_at i records (fresh_view (dropped == 0)) b.harts 0 s l.0 l.1 in
    let p = project (order_limits_of b) s 0 (replicate b.harts (fresh_view (dropped == 0))) w.0 records (fresh_view (dropped == 0)) w.1 at.1 in
    let none = late_none w.0 0 records h ic s j (none_late (dropped == 0) w.0 records (ended_none (order_limits_of b) b.harts (dropped == 0) records w.0 w.1 order)) edge in
    let fits : Fits b.limit (fresh_view (dropped == 0)).phase (mark_of s records) (spans s records) =
    shape (order_limits_of b) (dropped == 0) 0 (replicate b.harts (fresh_view (dropped == 0))) w.0 records w.1 s (fresh_view (dropped == 0)) at.1 (fresh_known (dropped == 0)) (over s) in
    let last = last_by (order_limits_of b) (dropped == 0) s p.0 (over s p.0 p.1) (fresh_view (dropped == 0)) records (fresh_known (dropped == 0)) p.2 in
    let same : 0 + s ≡ s = omega arith in (
      l.0,
      l.1,
      subst (λ (x : Lane). Has x.points j ⊎ InCursors x.cursors j) (ap (lane_of i records) (sym same) ∙ at.0)
          (source_placed i records s b.limit low (replays_go_on counted asks rows i records) points (dropped == 0) h ic j p.0 (slice_get w.0 s) p.1 edge none fits last),
    )
