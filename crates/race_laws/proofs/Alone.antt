-- Each Edge of a stream is that of an edge.
use Rattle.race_laws.proofs.Common.{◌≡◌, ℕ, zero, suc, Bool, true, false, ◌&&◌, ◌==◌, refl, inl, inr, sym, ap, ◌∙◌, subst, List, [], ◌∷◌, length, slice_get, map, Option, Some, Contains, RawSettings, Record, Header, FirstLoad, ScOk, ScFailed, Edge, End, Point, IsEdge, In, edges_into, name_of, sources_into, edges_of_first, Run, edges_in, edge_record, edge_between, HasNetzersEdges, KeepsEdgesAlone, ReplayedAreSinceHeaders, eqb-true, and_parts, contains_in, in_contains}
use Rattle.hart_replay.specs.Replay.{Interval, interval_of, interval_from, puts, nothing}
use Rattle.race_laws.proofs.Members.{in_right, in_parts, map_in}
use Rattle.race_laws.proofs.Heads.{EdgeLaws}

-- an Edge among records is one of their Edges
edge_among : (rs : List Record) (k ic s j : ℕ) → In rs (Edge k ic s j) → In (edges_in rs) (Edge k ic s j)
edge_among [] k ic s j i = absurd i
edge_among (Edge h c f g ∷ rs) k ic s j (inl e) = inl e
edge_among (Edge h c f g ∷ rs) k ic s j (inr i) = inr (edge_among rs k ic s j i)
edge_among rs k ic s j (inl e) = cc
edge_among (r ∷ rs) k ic s j (inr i) = edge_among rs k ic s j i

-- two places that are an edge with this Edge
abbrev IsOfEdge : List Point → Record → Type 0
IsOfEdge points r = (m n : ℕ) × IsEdge points m n × (edge_between points m n ≡ r)

of_first : EdgeLaws → (points : List Point) (n : ℕ) (r : Record) → In (map edge_record (edges_of_first points n)) r → IsOfEdge points r
unfolding edges_of_first
of_first laws points zero r i = absurd i
of_first laws points (suc n) r i =
    let pair = map_in edge_record _ r i in
    elim (in_parts (edges_of_first points n) _ pair.0 pair.1) [
      | inl old ↦ of_first laws points n r (subst (λ q. In (map edge_record (edges_of_first points n)) q) pair.2 (in_mapped (edges_of_first points n) pair.0 old))
      | inr now ↦
          let source = map_in (λ (s : ℕ × ℕ). (name_of (slice_get points n), s)) (sources_into points n) pair.0 now in
          let place = map_in (λ m. name_of (slice_get points m)) (edges_into points n) source.0 source.1 in (
            place.0,
            n,
            (laws.listed points place.0 n).0 (in_contains (edges_into points n) place.0 place.1),
            ap (λ (s : ℕ × ℕ). edge_record (name_of (slice_get points n), s)) place.2 ∙ (ap edge_record source.2 ∙ pair.2),
          )
    ]
  where
    in_mapped : (es : List ((ℕ × ℕ) × (ℕ × ℕ))) (e : (ℕ × ℕ) × (ℕ × ℕ)) → In es e → In (map edge_record es) (edge_record e)
    in_mapped [] e i = absurd i
    in_mapped (f ∷ es) e (inl is) = inl (ap edge_record is)
    in_mapped (f ∷ es) e (inr i) = inr (in_mapped es e i)

pub edges_alone : EdgeLaws → (c : RawSettings) (run : Run) → HasNetzersEdges run → KeepsEdgesAlone c run
edges_alone laws c run is rs end k ic s j among =
    let r : Record = Edge k ic s j in
    let whole = subst (λ (xs : List Record). In xs r) (sym end.parts) (in_right end.front rs r (contains_in rs r among)) in
    let found = of_first laws run.points (length run.points) r (subst (λ (xs : List Record). In xs r) is (edge_among run.stream k ic s j whole)) in
    (found.0, found.1, record { edge = found.2; kept = subst (Contains rs) (sym found.3) among }, found.3)

-- ---- the Header of an interval

header_of : (rs : List Record) (h c : ℕ) (v : Interval) → interval_of h c rs ≡ Some v → In rs (Header h c v.start.ic v.start.pc v.start.x)
header_of [] h c v e = cc
header_of (Header k n ic pc x ∷ rs) h c v e = go (k == h && (n == c)) refl e (header_of rs h c v)
  where
    go : (b : Bool) → (k == h && (n == c)) ≡ b
        → elim b as (λ y. Option Interval) [ true ↦ Some (interval_from (record { pc = pc; x = x; ic = ic }) (puts h rs nothing)) | false ↦ interval_of h c rs ] ≡ Some v
        → (interval_of h c rs ≡ Some v → In rs (Header h c v.start.ic v.start.pc v.start.x))
        → In (Header k n ic pc x ∷ rs) (Header h c v.start.ic v.start.pc v.start.x)
    go true is f later =
        let names = and_parts (k == h) (n == c) is in
        let start : interval_from (record { pc = pc; x = x; ic = ic }) (puts h rs nothing) ≡ v = cc in
        inl (ap (λ t. Header t n ic pc x) (eqb-true k h names.0)
        ∙ (ap (λ t. Header h t ic pc x) (eqb-true n c names.1)
        ∙ ap (λ (w : Interval). Header h c w.start.ic w.start.pc w.start.x) start))
    go false is f later = inr (later f)
header_of (FirstLoad k s x ∷ rs) h c v e = inr (header_of rs h c v e)
header_of (ScOk k ∷ rs) h c v e = inr (header_of rs h c v e)
header_of (ScFailed k ∷ rs) h c v e = inr (header_of rs h c v e)
header_of (Edge k ic s j ∷ rs) h c v e = inr (header_of rs h c v e)
header_of (End k m ∷ rs) h c v e = inr (header_of rs h c v e)

pub replayed_since : ReplayedAreSinceHeaders
replayed_since records points h n v e m p at same low = record {
  point = p;
  at = at;
  number = n;
  ic = v.start.ic;
  pc = v.start.pc;
  x = v.start.x;
  header = in_contains records (Header p.hart n v.start.ic v.start.pc v.start.x)
      (subst (λ (k : ℕ). In records (Header k n v.start.ic v.start.pc v.start.x)) (sym same) (header_of records h n v e));
  since = low;
}
