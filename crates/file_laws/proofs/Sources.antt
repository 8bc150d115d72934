-- The sources of the Edges into a point are earlier points of other harts.
use Rattle.file_laws.proofs.Common.{◌≡◌, ℕ, zero, suc, ◌+◌, ◌<◌, ◌≤◌, Option, Some, None, List, [], ◌∷◌, ◌++◌, length, map, refl, sym, ◌∙◌, ap, subst, arith, inl, inr, ◌≢◌, ◌⊎◌, slice_get, eqb_tells, AllByRecursion, IsEarly, Point, after, edges_into, name_of, sources_into, edges_from, edge_records, slice_get_within, same_Some, ListedEdges, all_contained, EdgesAreFew}
use Rattle.race_log.specs.Netzer.{IsEdge}
use Rattle.file_laws.proofs.Views.{IsSource, AreSources}

-- ---- places in a list

pub get_front : {X : Type 0} (xs ys : List X) (m : ℕ) → m < length xs → slice_get (xs ++ ys) m ≡ slice_get xs m
get_front [] ys m h = absurd (omega (arith, h))
get_front (x ∷ xs) ys zero h = refl
get_front (x ∷ xs) ys (suc m) h = get_front xs ys m (omega (arith, h))

pub get_last : {X : Type 0} (xs : List X) (y : X) → slice_get (xs ++ y ∷ []) (length xs) ≡ Some y
get_last [] y = refl
get_last (x ∷ xs) y = get_last xs y

some_same : {X : Type 0} (x y : X) (o : Option X) → o ≡ Some x → o ≡ Some y → x ≡ y
some_same x y o e f = same_Some x y (sym e ∙ f)

-- ---- the sources

-- the points' harts are among n, and each has done the point's instruction
abbrev pub ArePoints : ℕ → (ℕ → ℕ) → List Point → Type 0
ArePoints n counts points = (m : ℕ) (q : Point) → slice_get points m ≡ Some q → (q.hart < n) × (q.count < counts q.hart)

-- a source that its hart has done
record IsDoneSource (n limit k : ℕ) (counts : ℕ → ℕ) (s : ℕ × ℕ) : Type 0 where
  source : IsSource n limit k s
  done : s.1 < counts s.0

by_name : (n limit k : ℕ) (counts : ℕ → ℕ) (q : Point) (o : Option Point) → o ≡ Some q → IsDoneSource n limit k counts (q.hart, q.count) → IsDoneSource n limit k counts (name_of o)
by_name n limit k counts q o e d = subst (λ (x : Option Point). IsDoneSource n limit k counts (name_of x)) (sym e) d

one_source : (points : List Point) (p : Point) (n limit : ℕ) (counts : ℕ → ℕ) (m : ℕ) → ArePoints n counts points → ((s : ℕ) → counts s ≤ limit) → IsEdge (after points p) m (length points)
    → IsDoneSource n limit p.hart counts (name_of (slice_get (after points p) m))
one_source points p n limit counts m are high e =
    let q = e.conflicts.first in
    let here : slice_get points m ≡ Some q = sym (get_front points (p ∷ []) m e.conflicts.earlier) ∙ e.conflicts.first_at in
    let point = are m q here in
    let same : e.conflicts.second ≡ p = some_same e.conflicts.second p (slice_get (after points p) (length points)) e.conflicts.second_at (get_last points p) in
    let apart : q.hart ≢ p.hart = subst (λ (x : Point). q.hart ≢ x.hart) same e.conflicts.related.apart in
    by_name n limit p.hart counts q (slice_get (after points p) m) e.conflicts.first_at (record { source = record { hart = point.0; other = apart; below = omega (arith, point.1, high q.hart) }; done = point.1 })

named : (run : List Point) (n limit k : ℕ) (counts : ℕ → ℕ) (ms : List ℕ) → AllByRecursion (λ m. IsDoneSource n limit k counts (name_of (slice_get run m))) ms
    → AllByRecursion (IsDoneSource n limit k counts) (map (λ m. name_of (slice_get run m)) ms)
named run n limit k counts [] a = tt
named run n limit k counts (m ∷ ms) a = (a.0, named run n limit k counts ms a.1)

done_sources : ListedEdges → (points : List Point) (p : Point) (n limit : ℕ) (counts : ℕ → ℕ) → ArePoints n counts points → ((s : ℕ) → counts s ≤ limit)
    → AllByRecursion (IsDoneSource n limit p.hart counts) (sources_into (after points p) (length points))
done_sources listed points p n limit counts are high =
    let run = after points p in
    let ms = edges_into run (length points) in
    named run n limit p.hart counts ms
    (all_contained (λ m. IsDoneSource n limit p.hart counts (name_of (slice_get run m))) ms (λ m has. one_source points p n limit counts m are high ((listed run m (length points)).0 has)))

are_sources : (n limit k : ℕ) (counts : ℕ → ℕ) (ss : List (ℕ × ℕ)) → AllByRecursion (IsDoneSource n limit k counts) ss → AreSources n limit k ss
are_sources n limit k counts [] a = tt
are_sources n limit k counts (s ∷ ss) a = (a.0.source, are_sources n limit k counts ss a.1)

are_early : (n limit k ic : ℕ) (counts later : ℕ → ℕ) (ss : List (ℕ × ℕ)) → ((s : ℕ) → counts s ≤ later s) → AllByRecursion (IsDoneSource n limit k counts) ss → AllByRecursion (IsEarly later) (edges_from k ic ss)
are_early n limit k ic counts later [] on a = tt
are_early n limit k ic counts later (s ∷ ss) on a = (omega (arith, a.0.done, on s.0), are_early n limit k ic counts later ss on a.1)

pub sources_are : ListedEdges → (points : List Point) (p : Point) (n limit : ℕ) (counts : ℕ → ℕ) → ArePoints n counts points → ((s : ℕ) → counts s ≤ limit)
    → AreSources n limit p.hart (sources_into (after points p) (length points))
sources_are listed points p n limit counts are high = are_sources n limit p.hart counts _ (done_sources listed points p n limit counts are high)

-- the Edges into a point come from instructions that are done
pub edges_early : ListedEdges → (point : Option Point) (points : List Point) (n limit : ℕ) (counts later : ℕ → ℕ) → ArePoints n counts points → ((s : ℕ) → counts s ≤ limit) → ((s : ℕ) → counts s ≤ later s)
    → AllByRecursion (IsEarly later) (edge_records point points)
edges_early listed None points n limit counts later are high on = tt
edges_early listed (Some p) points n limit counts later are high on = are_early n limit p.hart p.count counts later _ on (done_sources listed points p n limit counts are high)

-- ---- one point more

before_or_last : (m n : ℕ) → m < n + 1 → (m < n) ⊎ (m ≡ n)
before_or_last m n h = elim (eqb_tells m n) [
  | inl p ↦ inr p.1
  | inr p ↦ inl (omega (arith, h, p.1))
]

pub points_go_on : (points : List Point) (p : Point) (n : ℕ) (counts later : ℕ → ℕ) → ArePoints n counts points → ((s : ℕ) → counts s ≤ later s) → p.hart < n → p.count < later p.hart → ArePoints n later (after points p)
points_go_on points p n counts later are on hart count m q e = elim (before_or_last m (length points) (omega (arith, slice_get_within (after points p) m q e, long points p))) [
  | inl before ↦ (let old = are m q (sym (get_front points (p ∷ []) m before) ∙ e) in (old.0, omega (arith, old.1, on q.hart)))
  | inr last ↦ (let same : p ≡ q = some_same p q (slice_get (after points p) m) (ap (slice_get (after points p)) last ∙ get_last points p) e in subst (λ (x : Point). (x.hart < n) × (x.count < later x.hart)) same (hart, count))
]
  where
    long : (points : List Point) (p : Point) → length (after points p) ≡ length points + 1
    long [] p = refl
    long (x ∷ xs) p = omega (arith, long xs p)

-- ---- a point has at most one Edge from each hart

edges_count : (k ic : ℕ) (ss : List (ℕ × ℕ)) → length (edges_from k ic ss) ≡ length ss
edges_count k ic [] = refl
edges_count k ic (s ∷ ss) = ap suc (edges_count k ic ss)

-- a point has at most n Edges, one from each of n harts
pub few_edges : EdgesAreFew → (point : Option Point) (points : List Point) (n : ℕ) (counts : ℕ → ℕ) → ArePoints n counts points → length (edge_records point points) ≤ n
few_edges few None points n counts are = omega arith
few_edges few (Some p) points n counts are = omega (arith, edges_count p.hart p.count (sources_into (after points p) (length points)), few points p n (λ m q e. (are m q e).0))
