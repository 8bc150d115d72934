-- The targets of the Edges into a hart, by the walk of the order's rules: `seen` is above each target so far, and not above
-- the next Header's or End's count.
use Rattle.joint_replay.proofs.Common.{◌≡◌, ℕ, ◌+◌, ◌<◌, ◌≤◌, Bool, true, false, not, ◌&&◌, ◌||◌, ◌==◌, ◌⊎◌, inl, inr, nat_lt, refl, sym, ap, ◌∙◌, subst, arith, List, [], ◌∷◌, Option, Some, None, Result, Ok, if◌then◌else◌, nat_le, EndMark, Record, Header, FirstLoad, ScOk, ScFailed, Edge, End, hart_of, OrderLimits, HartView, Phase, takes_header, takes_other, is_awaited, is_number, has_edge, has_end, goes_on, phase_after, after_one, is_done, is_unfinished, puts, nothing, Logged, HasEdge, Span, mark_of, spans, AreSpans, Fits, is_known, last_of, IsInside, EdgesAreInside, and_parts, eqb-false, eqb-true, leb-true, or-true}
use Rattle.log_order.specs.declared.view.Phase.TheVariants.{Unknown, Awaiting, Open, Done}
use Rattle.joint_replay.proofs.Shapes.{◌>>◌, own_walk, ok_is, goes_through, headed, other, edged, ended, Same, loads_same, ok_same, failed_same, others_same, project, fit, unfinished, met_of}

-- the counts seen so far are not above what comes
abbrev HasSeen : Phase → ℕ → EndMark → List Span → Type 0
HasSeen Unknown seen m [] = Unit {0}
HasSeen Unknown seen m (s ∷ ss) = seen ≤ s.begin
HasSeen (Awaiting next begin) seen m ss = Unit {0}
HasSeen (Open next since) seen m ss = seen ≤ m.ic
HasSeen Done seen m ss = Unit {0}

seen_less : (p : Phase) (a b : ℕ) (m : EndMark) (ss : List Span) → a ≤ b → HasSeen p b m ss → HasSeen p a m ss
seen_less Unknown a b m [] low h = tt
seen_less Unknown a b m (s ∷ ss) low h = omega (arith, low, h)
seen_less (Awaiting next begin) a b m ss low h = tt
seen_less (Open next since) a b m ss low h = omega (arith, low, h)
seen_less Done a b m ss low h = tt

last_up : (limit : ℕ) (next : Option ℕ) (m : EndMark) (ss : List Span) → AreSpans limit next m.ic ss → m.ic ≤ last_of m ss
last_up limit next m [] a = omega arith
last_up limit next m (s ∷ ss) a = let later = last_up limit (Some (s.number + 1)) s.mark ss a.4 in let b = a.1 in let c = a.2 in omega (arith, later, b, c)

-- ---- by the phases

module _ (limit : ℕ) where
  header_seen : (p : Phase) (n ic seen : ℕ) (m : EndMark) (ss : List Span) → takes_header p ≡ true → seen ≤ ic → HasSeen p seen m (record { number = n; begin = ic; mark = m } ∷ ss)
  header_seen Unknown n ic seen m ss t low = low
  header_seen (Awaiting next begin) n ic seen m ss t low = tt
  header_seen (Open next since) n ic seen m ss t low = cc
  header_seen Done n ic seen m ss t low = cc

  header_inside : (p : Phase) (n ic k : ℕ) (m : EndMark) (ss : List Span) → takes_header p ≡ true → is_awaited p n ic ≡ true → (ic ≤ k) × (k < last_of m ss) → IsInside p m (record { number = n; begin = ic; mark = m } ∷ ss) k
  header_inside Unknown n ic k m ss t a i = inr i
  header_inside (Awaiting next begin) n ic k m ss t a i = let e = eqb-true begin ic (and_parts (begin == ic) (is_number next n) a).0 in let low = i.0 in (omega (arith, e, low), i.1)
  header_inside (Open next since) n ic k m ss t a i = cc
  header_inside Done n ic k m ss t a i = cc

  edge_inside : (interval : ℕ) (p : Phase) (seen ic : ℕ) (m : EndMark) (ss : List Span) → takes_other p ≡ true → has_edge interval p ic ≡ true → ic < seen → HasSeen p seen m ss → Fits limit p m ss → IsInside p m ss ic
  edge_inside interval Unknown seen ic m [] t e up h f = tt
  edge_inside interval Unknown seen ic m (s ∷ ss) t e up h f = inl (omega (arith, up, h))
  edge_inside interval (Awaiting next begin) seen ic m ss t e up h f = cc
  edge_inside interval (Open next since) seen ic m ss t e up h f =
      let low = leb-true since ic (and_parts (nat_le since ic) (nat_lt ic (since + interval)) e).0 in
      let last = last_up limit (Some next) m ss f.2 in
      (low, omega (arith, up, h, last))
  edge_inside interval Done seen ic m ss t e up h f = cc

  end_seen : (p : Phase) (seen : ℕ) (m late : EndMark) (ss : List Span) → takes_other p ≡ true → seen ≤ m.ic → Fits limit (phase_after p m) late ss → HasSeen p seen m ss
  end_seen Unknown seen m late [] t low f = tt
  end_seen Unknown seen m late (s ∷ ss) t low f = by (goes_on m.reason) f
    where
      by : (b : Bool) → Fits limit (if b then Awaiting None m.ic else Done) late (s ∷ ss) → seen ≤ s.begin
      by true f = let e = f.1 in omega (arith, low, e)
      by false f = cc
  end_seen (Awaiting next begin) seen m late ss t low f = tt
  end_seen (Open next since) seen m late ss t low f = low
  end_seen Done seen m late ss t low f = tt

  end_inside : (interval : ℕ) (p : Phase) (k : ℕ) (m late : EndMark) (ss : List Span) → takes_other p ≡ true → has_end interval p m.reason m.ic ≡ true → Fits limit (phase_after p m) late ss
      → IsInside (phase_after p m) late ss k → IsInside p m ss k
  end_inside interval Unknown k m late [] t h f i = tt
  end_inside interval Unknown k m late (s ∷ ss) t h f i = by (goes_on m.reason) f i
    where
      by : (b : Bool) → Fits limit (if b then Awaiting None m.ic else Done) late (s ∷ ss) → IsInside (if b then Awaiting None m.ic else Done) late (s ∷ ss) k → (k < s.begin) ⊎ ((s.begin ≤ k) × (k < last_of s.mark ss))
      by true f i = let e = f.1 in let low = i.0 in inr (omega (arith, e, low), i.1)
      by false f i = absurd i
  end_inside interval (Awaiting next begin) k m late ss t h f i = cc
  end_inside interval (Open next since) k m late ss t h f i = by ss (goes_on m.reason) i
    where
      up : since ≤ m.ic
      up = leb-true since m.ic (and_parts (nat_le since m.ic) (if m.reason == 1 then m.ic == since + interval else nat_le m.ic (since + interval)) h).0

      by : (ss : List Span) (b : Bool) → IsInside (if b then Awaiting (Some next) m.ic else Done) late ss k → (since ≤ k) × (k < last_of m ss)
      by [] true i = absurd i
      by (s ∷ ss) true i = let low = i.0 in let u = up in (omega (arith, u, low), i.1)
      by ss false i = absurd i
  end_inside interval Done k m late ss t h f i = cc

-- ---- by the records

other_edges : (r : Record) (rs : List Record) (h ic s j : ℕ) → (hart_of r == h) ≡ false → HasEdge (r ∷ rs) h ic s j → HasEdge rs h ic s j
other_edges (Header k n c pc x) rs h ic s j e i = i
other_edges (FirstLoad k skip value) rs h ic s j e i = i
other_edges (ScOk k) rs h ic s j e i = i
other_edges (ScFailed k) rs h ic s j e i = i
other_edges (Edge k n a b) rs h ic s j e (inl i) = absurd (eqb-false k h e i.0)
other_edges (Edge k n a b) rs h ic s j e (inr i) = i
other_edges (End k m) rs h ic s j e i = i

module _ (t : OrderLimits) (all : Bool) (h : ℕ) (w : HartView) (over : is_unfinished all w ≡ false) where
  pub record Known (v : HartView) (rs : List Record) : Type 0 where
    pub seen : HasSeen v.phase v.seen (mark_of h rs) (spans h rs)
    pub inside : (ic s j : ℕ) → HasEdge rs h ic s j → IsInside v.phase (mark_of h rs) (spans h rs) ic

  at_nothing : (p : Phase) (seen : ℕ) (met : Bool) → (is_known p ≡ true → (all || met) ≡ true) → ((all || met) && not (is_done p)) ≡ false → HasSeen p seen (mark_of h []) []
  at_nothing Unknown seen met k e = tt
  at_nothing (Awaiting next begin) seen met k e = tt
  at_nothing (Open next since) seen met k e = absurd (unfinished (all || met) (k refl) e)
  at_nothing Done seen met k e = tt

  same_known : (v u : HartView) (r : Record) (rs : List Record) → u.phase ≡ v.phase → v.seen ≤ u.seen → Same h r rs → HasSeen u.phase u.seen (mark_of h rs) (spans h rs) → HasSeen v.phase v.seen (mark_of h (r ∷ rs)) (spans h (r ∷ rs))
  same_known v u r rs phase low same k =
      subst (λ m. HasSeen v.phase v.seen m (spans h (r ∷ rs))) (sym same.0)
      (subst (λ ss. HasSeen v.phase v.seen (mark_of h rs) ss) (sym same.1) (seen_less v.phase v.seen u.seen (mark_of h rs) (spans h rs) low (subst (λ p. HasSeen p u.seen (mark_of h rs) (spans h rs)) phase k)))

  same_inside : (v u : HartView) (r : Record) (rs : List Record) (ic : ℕ) → u.phase ≡ v.phase → Same h r rs → IsInside u.phase (mark_of h rs) (spans h rs) ic → IsInside v.phase (mark_of h (r ∷ rs)) (spans h (r ∷ rs)) ic
  same_inside v u r rs ic phase same i =
      subst (λ m. IsInside v.phase m (spans h (r ∷ rs)) ic) (sym same.0) (subst (λ ss. IsInside v.phase (mark_of h rs) ss ic) (sym same.1) (subst (λ p. IsInside p (mark_of h rs) (spans h rs) ic) phase i))

  by_record : (r : Record) (rs : List Record) (v u : HartView) → (hart_of r == h) ≡ true → after_one t v r ≡ Ok u → Fits t.limit u.phase (mark_of h rs) (spans h rs) → Known u rs → Known v (r ∷ rs)
  by_record (Header k n ic pc x) rs v u own e f known =
      let d = headed t v u n ic e in
      record {
        seen = subst (λ b. HasSeen v.phase v.seen (mark_of h rs) (elim b as (λ y. List Span) [ true ↦ record { number = n; begin = ic; mark = mark_of h rs } ∷ spans h rs | false ↦ spans h rs ])) (sym own)
            (header_seen t.limit v.phase n ic v.seen (mark_of h rs) (spans h rs) d.takes d.low);
        inside = λ c s j edge. subst (λ b. IsInside v.phase (mark_of h rs) (elim b as (λ y. List Span) [ true ↦ record { number = n; begin = ic; mark = mark_of h rs } ∷ spans h rs | false ↦ spans h rs ]) c) (sym own)
            (header_inside t.limit v.phase n ic c (mark_of h rs) (spans h rs) d.takes d.awaited (subst (λ p. IsInside p (mark_of h rs) (spans h rs) c) d.phase (known.inside c s j edge)));
      }
  by_record (FirstLoad k skip value) rs v u own e f known =
      let d = other v u e in record { seen = same_known v u (FirstLoad k skip value) rs d.phase d.seen (loads_same h k skip value rs) known.seen; inside = λ c s j edge. same_inside v u (FirstLoad k skip value) rs c d.phase (loads_same h k skip value rs) (known.inside c s j edge) }
  by_record (ScOk k) rs v u own e f known =
      let d = other v u e in record { seen = same_known v u (ScOk k) rs d.phase d.seen (ok_same h k rs) known.seen; inside = λ c s j edge. same_inside v u (ScOk k) rs c d.phase (ok_same h k rs) (known.inside c s j edge) }
  by_record (ScFailed k) rs v u own e f known =
      let d = other v u e in record { seen = same_known v u (ScFailed k) rs d.phase d.seen (failed_same h k rs) known.seen; inside = λ c s j edge. same_inside v u (ScFailed k) rs c d.phase (failed_same h k rs) (known.inside c s j edge) }
  by_record (Edge k n a b) rs v u own e f known =
      let d = edged t v u n b e in
      record {
        seen = same_known v u (Edge k n a b) rs d.stays.phase d.stays.seen (refl, refl) known.seen;
        inside = λ c s j edge. elim edge [
          | inl here ↦ subst (λ m. IsInside v.phase (mark_of h rs) (spans h rs) m) here.1
              (edge_inside t.limit t.interval v.phase u.seen n (mark_of h rs) (spans h rs) d.stays.takes d.fits d.next
              (subst (λ p. HasSeen p u.seen (mark_of h rs) (spans h rs)) d.stays.phase known.seen) (subst (λ p. Fits t.limit p (mark_of h rs) (spans h rs)) d.stays.phase f))
          | inr later ↦ same_inside v u (Edge k n a b) rs c d.stays.phase (refl, refl) (known.inside c s j later)
        ];
      }
  by_record (End k m) rs v u own e f known =
      let d = ended t v u m e in
      let fits = subst (λ p. Fits t.limit p (mark_of h rs) (spans h rs)) d.phase f in
      record {
        seen = subst (λ b. HasSeen v.phase v.seen (elim b as (λ y. Logged) [ true ↦ record { loads = []; conditionals = []; mark = m } | false ↦ puts h rs nothing ]).mark (spans h rs)) (sym own)
            (end_seen t.limit v.phase v.seen m (mark_of h rs) (spans h rs) d.takes d.low fits);
        inside = λ c s j edge. subst (λ b. IsInside v.phase (elim b as (λ y. Logged) [ true ↦ record { loads = []; conditionals = []; mark = m } | false ↦ puts h rs nothing ]).mark (spans h rs) c) (sym own)
            (end_inside t.limit t.interval v.phase c m (mark_of h rs) (spans h rs) d.takes d.fits fits (subst (λ p. IsInside p (mark_of h rs) (spans h rs) c) d.phase (known.inside c s j edge)));
      }

  known_by : (v : HartView) (rs : List Record) → (is_known v.phase ≡ true → (all || v.met) ≡ true) → own_walk t h v rs ≡ Ok w → Known v rs
  known_by v [] k e = record { seen = at_nothing v.phase v.seen v.met k (ap (λ (x : HartView). is_unfinished all x) (ok_is v w e) ∙ over); inside = λ ic s j edge. absurd edge }
  known_by v (r ∷ rs) k e = by (hart_of r == h) refl e (λ u known walked. known_by u rs known walked)
    where
      by : (b : Bool) → (hart_of r == h) ≡ b → elim b as (λ x. Result HartView ℕ) [ true ↦ after_one t v r >> (λ u. own_walk t h u rs) | false ↦ own_walk t h v rs ] ≡ Ok w
          → ((u : HartView) → (is_known u.phase ≡ true → (all || u.met) ≡ true) → own_walk t h u rs ≡ Ok w → Known u rs) → Known v (r ∷ rs)
      by true own f rest =
          let g = goes_through (after_one t v r) (λ u. own_walk t h u rs) w f in
          let known : is_known g.0.phase ≡ true → (all || g.0.met) ≡ true = λ x. ap (λ b. all || b) (met_of t r v g.0 g.1) ∙ or-true all in
          by_record r rs v g.0 own g.1 (fit t all h w over g.0 rs known g.2) (rest g.0 known g.2)
      by false apart f rest =
          let known = rest v k f in
          record {
            seen = same_known v v r rs refl (omega arith) (others_same h r rs apart) known.seen;
            inside = λ c s j edge. same_inside v v r rs c refl (others_same h r rs apart) (known.inside c s j (other_edges r rs h c s j apart edge));
          }

pub edges_are_inside : EdgesAreInside
edges_are_inside t all place harts ends rs e h v at known over ic s j edge =
    let p = project t h place harts ends rs v e at in
    (known_by t all h p.0 (over p.0 p.1) v rs known p.2).inside ic s j edge
