-- Orders that respect the kept Edges, by a test for them.
use Rattle.race_laws.proofs.Common.{◌≡◌, ℕ, ◌≤◌, Bool, true, false, ◌&&◌, ◌||◌, ◌==◌, ◌⊎◌, inl, inr, arith, ap, ◌∙◌, List, [], ◌∷◌, ◌++◌, slice_get, IsTrue, RawSettings, Record, Edge, Point, MeetAt, AtPlaces, IsEdge, Chosen, EndingAfter, In, edge, name_of, Run, edge_record, edge_between, KeptEdge, KeepsLateEdges, KeepsWords, eqb-true, and_parts, and_from, or_cases, or_left, or_right, eqb_same, contains_in, in_contains}
use Rattle.race_log.specs.Merges.{StandsIn, Precedes, IsMerge, IsMergeBegun, IsNext, Respects, AreKeptEdges}
use Rattle.race_laws.specs.Orders.{HasEnds, BeginningsGoOn}
use Rattle.race_laws.proofs.Heads.{EdgeLaws}

-- ---- a test for kept Edges

-- whether the record is the Edge between two instructions
abbrev is_it : (ℕ × ℕ) × (ℕ × ℕ) → Record → Bool
is_it e (Edge k ic s j) = (k == e.0.0 && (ic == e.0.1)) && (s == e.1.0 && (j == e.1.1))
is_it e r = false

it_is : (e : (ℕ × ℕ) × (ℕ × ℕ)) (r : Record) → is_it e r ≡ true → r ≡ edge_record e
it_is e (Edge k ic s j) h =
    let halves = and_parts (k == e.0.0 && (ic == e.0.1)) (s == e.1.0 && (j == e.1.1)) h in
    let first = and_parts (k == e.0.0) (ic == e.0.1) halves.0 in
    let second = and_parts (s == e.1.0) (j == e.1.1) halves.1 in
    ap (λ t. Edge t ic s j) (eqb-true k e.0.0 first.0)
    ∙ (ap (λ t. Edge e.0.0 t s j) (eqb-true ic e.0.1 first.1)
    ∙ (ap (λ t. Edge e.0.0 e.0.1 t j) (eqb-true s e.1.0 second.0)
    ∙ ap (λ t. Edge e.0.0 e.0.1 e.1.0 t) (eqb-true j e.1.1 second.1)))
it_is e r h = cc

is_itself : (e : (ℕ × ℕ) × (ℕ × ℕ)) → is_it e (edge_record e) ≡ true
is_itself e =
    and_from (e.0.0 == e.0.0 && (e.0.1 == e.0.1)) (e.1.0 == e.1.0 && (e.1.1 == e.1.1))
    (and_from (e.0.0 == e.0.0) (e.0.1 == e.0.1) (eqb_same e.0.0) (eqb_same e.0.1))
    (and_from (e.1.0 == e.1.0) (e.1.1 == e.1.1) (eqb_same e.1.0) (eqb_same e.1.1))

abbrev has : (ℕ × ℕ) × (ℕ × ℕ) → List Record → Bool
has e [] = false
has e (r ∷ rs) = is_it e r || has e rs

has_in : (e : (ℕ × ℕ) × (ℕ × ℕ)) (rs : List Record) → has e rs ≡ true → In rs (edge_record e)
has_in e [] h = cc
has_in e (r ∷ rs) h = elim (or_cases (is_it e r) (has e rs) h) [
  | inl here ↦ inl (it_is e r here)
  | inr there ↦ inr (has_in e rs there)
]

in_has : (e : (ℕ × ℕ) × (ℕ × ℕ)) (rs : List Record) → In rs (edge_record e) → has e rs ≡ true
in_has e [] i = absurd i
in_has e (r ∷ rs) (inl is) = or_left (is_it e r) (has e rs) (ap (is_it e) is ∙ is_itself e)
in_has e (r ∷ rs) (inr i) = or_right (is_it e r) (has e rs) (in_has e rs i)

abbrev kept_edge : List Record → List Point → ℕ → ℕ → Bool
kept_edge records points m n = edge points m n && has (name_of (slice_get points n), name_of (slice_get points m)) records

module _ (laws : EdgeLaws) (records : List Record) (points : List Point) where
  kept_is : (m n : ℕ) → Chosen (kept_edge records points) m n → KeptEdge records points m n
  kept_is m n h =
      let parts = and_parts (edge points m n) (has (name_of (slice_get points n), name_of (slice_get points m)) records) h in record {
        edge = (laws.decide points m n).0 parts.0;
        kept = in_contains records (edge_between points m n) (has_in (name_of (slice_get points n), name_of (slice_get points m)) records parts.1);
      }

  is_kept : (m n : ℕ) → KeptEdge records points m n → Chosen (kept_edge records points) m n
  is_kept m n k =
      and_from (edge points m n) (has (name_of (slice_get points n), name_of (slice_get points m)) records) ((laws.decide points m n).1 k.edge)
      (in_has (name_of (slice_get points n), name_of (slice_get points m)) records (contains_in records (edge_between points m n) k.kept))

  chosen_respect : (order : List ℕ) → Respects (KeptEdge records points) order → Respects (Chosen (kept_edge records points)) order
  chosen_respect order r m n h i = r m n (kept_is m n h) i

  kept_respect : (order : List ℕ) → Respects (Chosen (kept_edge records points)) order → Respects (KeptEdge records points) order
  kept_respect order r m n k i = r m n (is_kept m n k) i

  kept_between : (places : ℕ → Bool) → HasEnds places records points → AreKeptEdges places points (kept_edge records points)
  kept_between places ends m n h = let k = kept_is m n h in let e = ends m n k in (k.edge, e.0, e.1)

-- ---- the laws of merges that are used here

pub record MergeLaws : Type 0 where
  pub words : (kept : ℕ → Bool) (run : List Point) (edges : ℕ → ℕ → Bool) (order : List ℕ) → AreKeptEdges kept run edges → IsMerge kept run order → Respects (Chosen edges) order
      → (first : ℕ) → ((m n : ℕ) → EndingAfter first (IsEdge run) m n → Chosen edges m n)
      → (word m n : ℕ) → first ≤ m → AtPlaces (MeetAt word) run m n → IsTrue (kept m) → IsTrue (kept n) → Precedes order m n
  pub some : (kept : ℕ → Bool) (run : List Point) (edges : ℕ → ℕ → Bool) (order : List ℕ) → AreKeptEdges kept run edges → IsMergeBegun kept run order
      → IsMerge kept run order ⊎ ((hart m : ℕ) × IsNext kept run order hart m × ((k : ℕ) → Chosen edges k m → StandsIn order k))
  pub next : (kept : ℕ → Bool) (run : List Point) (edges : ℕ → ℕ → Bool) (order : List ℕ) → IsMergeBegun kept run order → Respects (Chosen edges) order
      → (hart m : ℕ) → IsNext kept run order hart m → ((k : ℕ) → Chosen edges k m → StandsIn order k)
      → IsMergeBegun kept run (order ++ m ∷ []) × Respects (Chosen edges) (order ++ m ∷ [])

pub words_stay : EdgeLaws → MergeLaws → (c : RawSettings) (run : Run) → KeepsLateEdges c run → KeepsWords c run
words_stay laws merges c run keeps records end places order ends allowed word m n since meet first second =
    merges.words places run.points (kept_edge records run.points) order (kept_between laws records run.points places ends) allowed.merge (chosen_respect laws records run.points order allowed.respects)
    m (λ j k e. is_kept laws records run.points j k (keeps records end m since j k e)) word m n (omega arith) meet first second

pub go_on : EdgeLaws → MergeLaws → BeginningsGoOn
go_on laws merges = record {
  some = λ places records points order ends begun. elim (merges.some places points (kept_edge records points) order (kept_between laws records points places ends) begun.merge) [
    | inl whole ↦ inl whole
    | inr t ↦ inr (t.0, t.1, record { next = t.2; passed = λ k e. t.3 k (is_kept laws records points k t.1 e) })
  ];
  longer = λ places records points order hart m begun ready.
      let r = merges.next places points (kept_edge records points) order begun.merge (chosen_respect laws records points order begun.respects) hart m ready.next
      (λ k h. ready.passed k (kept_is laws records points k m h)) in
      record { merge = r.0; respects = kept_respect laws records points (order ++ m ∷ []) r.1 };
}
