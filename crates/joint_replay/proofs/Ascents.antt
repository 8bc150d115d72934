-- The Edges into a hart of a log in order ascend.
use Rattle.joint_replay.proofs.Common.{◌≡◌, ℕ, zero, suc, ◌+◌, ◌<◌, ◌≤◌, Bool, true, false, ◌==◌, ◌&&◌, refl, sym, ap, ◌∙◌, subst, arith, List, [], ◌∷◌, ◌++◌, length, drop, replicate, Option, Some, None, Result, Ok, drop-nil, ne_eqb, RawSettings, Record, Header, FirstLoad, ScOk, ScFailed, Edge, End, hart_of, OrderLimits, HartView, after_one, broken_by, order_limits_of, IncomingEdge, sources_into, source_before, edges_into, AscendFrom, EdgesAscend}
use Rattle.log_order.specs.Rules.{fresh as fresh_view}
use Rattle.joint_replay.proofs.Shapes.{◌>>◌, own_walk, goes_through, headed, other, edged, ended, project}
use Rattle.joint_replay.proofs.Begins.{walk_of}
use Rattle.joint_replay.proofs.Headers.{repeated}

weaker : (low high : ℕ) (ss : List IncomingEdge) → low ≤ high → AscendFrom high ss → AscendFrom low ss
weaker low high [] le a = tt
weaker low high (s ∷ ss) le a = let first = a.0 in (omega (arith, le, first), a.1)

module _ (t : OrderLimits) (h : ℕ) where
  own_edge : (n s j low : ℕ) (b : Bool) (ss : List IncomingEdge) → low ≤ n + 1 → low ≤ low → AscendFrom (n + 1) ss → AscendFrom low ss → AscendFrom low (source_before (elim b as (λ y. Option IncomingEdge) [ true ↦ Some (record { target = n; hart = s; ic = j }) | false ↦ None ]) ss)
  own_edge n s j low true ss le same above a = (le, above)
  own_edge n s j low false ss le same above a = a

  by_record : (r : Record) (rs : List Record) (v u : HartView) → after_one t v r ≡ Ok u → AscendFrom u.seen (edges_into h rs) → AscendFrom v.seen (edges_into h (r ∷ rs))
  by_record (Header k n ic pc x) rs v u e a = let same = (headed t v u n ic e).seen in weaker v.seen u.seen (edges_into h rs) (omega (arith, same)) a
  by_record (FirstLoad k skip value) rs v u e a = weaker v.seen u.seen (edges_into h rs) (other v u e).seen a
  by_record (ScOk k) rs v u e a = weaker v.seen u.seen (edges_into h rs) (other v u e).seen a
  by_record (ScFailed k) rs v u e a = weaker v.seen u.seen (edges_into h rs) (other v u e).seen a
  by_record (Edge k n s j) rs v u e a =
      let d = edged t v u n j e in
      let next = d.next in
      own_edge n s j v.seen (k == h) (edges_into h rs) d.low (omega arith) (weaker (n + 1) u.seen (edges_into h rs) (omega (arith, next)) a) (weaker v.seen u.seen (edges_into h rs) d.stays.seen a)
  by_record (End k m) rs v u e a = let same = (ended t v u m e).seen in weaker v.seen u.seen (edges_into h rs) (omega (arith, same)) a

  other_record : (r : Record) (rs : List Record) (low : ℕ) → (hart_of r == h) ≡ false → AscendFrom low (edges_into h rs) → AscendFrom low (edges_into h (r ∷ rs))
  other_record (Header k n ic pc x) rs low e a = a
  other_record (FirstLoad k skip value) rs low e a = a
  other_record (ScOk k) rs low e a = a
  other_record (ScFailed k) rs low e a = a
  other_record (Edge k n s j) rs low e a = subst (λ b. AscendFrom low (source_before (elim b as (λ y. Option IncomingEdge) [ true ↦ Some (record { target = n; hart = s; ic = j }) | false ↦ None ]) (edges_into h rs))) (sym e) a
  other_record (End k m) rs low e a = a

  ascend : (v w : HartView) (rs : List Record) → own_walk t h v rs ≡ Ok w → AscendFrom v.seen (edges_into h rs)
  ascend v w [] e = tt
  ascend v w (r ∷ rs) e = by (hart_of r == h) refl e (λ u walked. ascend u w rs walked)
    where
      by : (b : Bool) → (hart_of r == h) ≡ b → elim b as (λ x. Result HartView ℕ) [ true ↦ after_one t v r >> (λ u. own_walk t h u rs) | false ↦ own_walk t h v rs ] ≡ Ok w
          → ((u : HartView) → own_walk t h u rs ≡ Ok w → AscendFrom u.seen (edges_into h rs)) → AscendFrom v.seen (edges_into h (r ∷ rs))
      by true own f rest = let g = goes_through (after_one t v r) (λ u. own_walk t h u rs) w f in by_record r rs v g.0 g.1 (rest g.0 g.2)
      by false apart f rest = other_record r rs v.seen apart (rest v f)

pub edges_ascend : EdgesAscend
edges_ascend t place harts ends rs e h v at = let p = project t h place harts ends rs v e at in ascend t h v p.0 rs p.2

pub log_edges_ascend : EdgesAscend → (s : RawSettings) (dropped : ℕ) (records : List Record) → broken_by s dropped records ≡ None → (h : ℕ) → h < s.harts → AscendFrom 0 (edges_into h records)
log_edges_ascend law s dropped records order h low =
    let w = walk_of (order_limits_of s) s.harts (dropped == 0) records order in
    law (order_limits_of s) 0 (replicate s.harts (fresh_view (dropped == 0))) w.0 records w.1 h (fresh_view (dropped == 0)) (repeated s.harts h (fresh_view (dropped == 0)) low)

-- ---- the sources of an instruction

-- the sources of the Edges into one instruction
abbrev pub sources_at : ℕ → List IncomingEdge → List (ℕ × ℕ)
sources_at ic [] = []
sources_at ic (s ∷ ss) = elim (s.target == ic) [ true ↦ (s.hart, s.ic) ∷ sources_at ic ss | false ↦ sources_at ic ss ]

pub same_sources : (h ic : ℕ) (rs : List Record) → sources_into rs h ic ≡ sources_at ic (edges_into h rs)
same_sources h ic [] = refl
same_sources h ic (Header k n c pc x ∷ rs) = same_sources h ic rs
same_sources h ic (FirstLoad k skip value ∷ rs) = same_sources h ic rs
same_sources h ic (ScOk k ∷ rs) = same_sources h ic rs
same_sources h ic (ScFailed k ∷ rs) = same_sources h ic rs
same_sources h ic (Edge k n s j ∷ rs) = by (k == h) (same_sources h ic rs)
  where
    by : (a : Bool) → sources_into rs h ic ≡ sources_at ic (edges_into h rs) → elim (a && (n == ic)) as (λ y. List (ℕ × ℕ)) [ true ↦ (s, j) ∷ sources_into rs h ic | false ↦ sources_into rs h ic ]
        ≡ sources_at ic (source_before (elim a as (λ y. Option IncomingEdge) [ true ↦ Some (record { target = n; hart = s; ic = j }) | false ↦ None ]) (edges_into h rs))
    by true rest = ap (λ (xs : List (ℕ × ℕ)). elim (n == ic) as (λ y. List (ℕ × ℕ)) [ true ↦ (s, j) ∷ xs | false ↦ xs ]) rest
    by false rest = rest
same_sources h ic (End k m ∷ rs) = same_sources h ic rs

-- past a higher instruction's there is none
pub none_higher : (ic low : ℕ) (ss : List IncomingEdge) → ic + 1 < low → AscendFrom low ss → sources_at ic ss ≡ []
none_higher ic low [] lt a = refl
none_higher ic low (s ∷ ss) lt a =
    let first = a.0 in
    ap (λ b. elim b as (λ y. List (ℕ × ℕ)) [ true ↦ (s.hart, s.ic) ∷ sources_at ic ss | false ↦ sources_at ic ss ]) (ne_eqb s.target ic (λ e. absurd (omega (arith, first, lt, e))))
    ∙ none_higher ic (s.target + 1) ss (omega (arith, first, lt)) a.1

-- from a place on they ascend
pub drop_ascends : (low i : ℕ) (ss : List IncomingEdge) → AscendFrom low ss → AscendFrom 0 (drop i ss)
drop_ascends low zero ss a = weaker 0 low ss (omega arith) a
drop_ascends low (suc i) [] a = tt
drop_ascends low (suc i) (s ∷ ss) a = drop_ascends (s.target + 1) i ss a.1

pub all_gathered : (h : ℕ) (records found rest : List IncomingEdge) → rest ≡ [] → found ++ rest ≡ records → found ≡ records
all_gathered h records found rest none e = sym (no_rest found) ∙ ap (λ (ss : List IncomingEdge). found ++ ss) (sym none) ∙ e
  where
    no_rest : (ss : List IncomingEdge) → ss ++ [] ≡ ss
    no_rest [] = refl
    no_rest (s ∷ ss) = ap (λ (xs : List IncomingEdge). s ∷ xs) (no_rest ss)

pub none_left : (h n : ℕ) (rs : List Record) → length rs ≤ n → edges_into h (drop n rs) ≡ []
none_left h n [] low = ap (edges_into h) (drop-nil n)
none_left h zero (r ∷ rs) low = absurd (omega (arith, low))
none_left h (suc n) (r ∷ rs) low = none_left h n rs (omega (arith, low))
