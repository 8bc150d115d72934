-- The laws of points, edges, merges and kept accesses.
use Rattle.std.specs.Prelude.{◌≡◌, ◌≤◌, ◌⊎◌, ◌↔◌, ◌∷◌, ◌++◌, [], ℕ, Bool, List, IsTrue, slice_get, Some, Contains, filter, not}
use Rattle.race_log.specs.Points.{Point, MeetAt}
use Rattle.race_log.specs.Netzer.{AtPlaces, ProgramOrder, Conflict, Either, Chain, Before, IsEdge, Chosen, OtherThan, EndingAfter}
use Rattle.race_log.specs.ByCount.{IsInOrder, IsPointAt, Leads, IsEdgeBetween, IsTimesOf}
use Rattle.race_log.specs.Holds.{TimesOf}
use Rattle.race_log.specs.Kept.{Kept, In, KeptAt, AllKnow, Suffices, after}
use Rattle.race_log.specs.Merges.{IsMerge, IsMergeBegun, IsNext, StandsIn, Precedes, Respects, AreKeptEdges, all_kept}

-- ---- Netzer's edges

-- no edge follows from program order and the other edges
abbrev pub NoEdgeFollows : Type 0
NoEdgeFollows = (run : List Point) (m n : ℕ) → IsEdge run m n → Chain (Either (ProgramOrder run) (OtherThan m n (IsEdge run))) m n → ⊥

-- pairs are conflicts in recorded order
abbrev pub AreConflicts : List Point → (ℕ → ℕ → Type 0) → Type 0
AreConflicts run Pair = (m n : ℕ) → Pair m n → Conflict run m n

-- pairs with program order order all conflicts
abbrev pub OrderConflicts : List Point → (ℕ → ℕ → Type 0) → Type 0
OrderConflicts run Pair = (m n : ℕ) → Conflict run m n → Chain (Either (ProgramOrder run) Pair) m n

-- every set of pairs that are conflicts, and that with program order orders all conflicts, has each edge; sets are given by names
abbrev pub EdgesAreNeeded : (Name : Type 0) → (Name → ℕ → ℕ → Type 0) → Type 0
EdgesAreNeeded Name Pair = (run : List Point) (of : Name) → AreConflicts run (Pair of) → OrderConflicts run (Pair of) → (m n : ℕ) → IsEdge run m n → Pair of m n

-- a chain of program order and edges leads from each point to each later one that conflicts with it
abbrev pub EdgesOrderConflicts : Type 0
EdgesOrderConflicts = (run : List Point) (m n : ℕ) → Conflict run m n → Chain (Either (ProgramOrder run) (IsEdge run)) m n

-- already the edges that end after the earlier of the two suffice for it
abbrev pub LateEdgesOrderConflicts : Type 0
LateEdgesOrderConflicts = (run : List Point) (m n : ℕ) → Conflict run m n → Chain (Either (ProgramOrder run) (EndingAfter m (IsEdge run))) m n

-- the points that edges into a run's next point come from are these
abbrev pub AreSources : List Point → Point → List (ℕ × ℕ) → Type 0
AreSources run b sources = (h i : ℕ) → Contains sources (h, i) ↔ ((p : Point) × IsPointAt run h i p × IsEdgeBetween (after run b) p b)

-- ---- merges of the harts' lists

-- a merge that respects the edges has conflicting points in recorded order
abbrev pub MergesKeepConflicts : Type 0
MergesKeepConflicts = (run : List Point) (order : List ℕ) → IsMerge all_kept run order → Respects (IsEdge run) order → (m n : ℕ) → Conflict run m n → Precedes order m n

-- a merge that respects the edges has a word's writes as recorded, and its reads between the same writes
abbrev pub MergesKeepWords : Type 0
MergesKeepWords = (run : List Point) (order : List ℕ) → IsMerge all_kept run order → Respects (IsEdge run) order
    → (word m n : ℕ) → AtPlaces (MeetAt word) run m n → Precedes order m n

-- some edges are all that end after a place
abbrev pub HasLateEdges : List Point → (ℕ → ℕ → Bool) → ℕ → Type 0
HasLateEdges run edges first = (m n : ℕ) → EndingAfter first (IsEdge run) m n → Chosen edges m n

-- a merge of kept points that respects kept edges, with all that end after a place, has conflicting kept points from there on in
-- recorded order
abbrev pub LateEdgesKeepConflicts : Type 0
LateEdgesKeepConflicts = (kept : ℕ → Bool) (run : List Point) (edges : ℕ → ℕ → Bool) (order : List ℕ)
    → AreKeptEdges kept run edges → IsMerge kept run order → Respects (Chosen edges) order → (first : ℕ) → HasLateEdges run edges first
    → (m n : ℕ) → first ≤ m → Conflict run m n → IsTrue (kept m) → IsTrue (kept n) → Precedes order m n

-- a merge of kept points that respects kept edges, with all that end after a place, keeps the recorded order of two accesses
-- of a word from there on, if one of them writes it
abbrev pub LateEdgesKeepWords : Type 0
LateEdgesKeepWords = (kept : ℕ → Bool) (run : List Point) (edges : ℕ → ℕ → Bool) (order : List ℕ)
    → AreKeptEdges kept run edges → IsMerge kept run order → Respects (Chosen edges) order → (first : ℕ) → HasLateEdges run edges first
    → (word m n : ℕ) → first ≤ m → AtPlaces (MeetAt word) run m n → IsTrue (kept m) → IsTrue (kept n) → Precedes order m n

-- the sources of all chosen edges into a point stand in an order
abbrev pub SourcesStand : (ℕ → ℕ → Bool) → List ℕ → ℕ → Type 0
SourcesStand edges order m = (k : ℕ) → Chosen edges k m → StandsIn order k

-- a merge that was begun is whole, or some hart's next point has the sources of all edges into it there
abbrev pub SomeHartGoesOn : Type 0
SomeHartGoesOn = (kept : ℕ → Bool) (run : List Point) (edges : ℕ → ℕ → Bool) (order : List ℕ)
    → AreKeptEdges kept run edges → IsMergeBegun kept run order → IsMerge kept run order ⊎ ((hart m : ℕ) × IsNext kept run order hart m × SourcesStand edges order m)

-- with such a point at its end it is a merge that was begun, and respects the edges
abbrev pub NextPointsRespect : Type 0
NextPointsRespect = (kept : ℕ → Bool) (run : List Point) (edges : ℕ → ℕ → Bool) (order : List ℕ)
    → IsMergeBegun kept run order → Respects (Chosen edges) order → (hart m : ℕ) → IsNext kept run order hart m → SourcesStand edges order m
    → IsMergeBegun kept run (order ++ m ∷ []) × Respects (Chosen edges) (order ++ m ∷ [])

-- ---- by hart and count

-- in a run in order, chains and edges over places are those over instructions by hart and count
abbrev pub ChainsStandForCounts : Type 0
ChainsStandForCounts = (run : List Point) → IsInOrder run → (m n : ℕ) (p q : Point) → slice_get run m ≡ Some p → slice_get run n ≡ Some q
    → Before run m n ↔ Leads run p.hart p.count q.hart q.count

-- an edge over places is one over instructions by hart and count
abbrev pub EdgesStandForCounts : Type 0
EdgesStandForCounts = (run : List Point) → IsInOrder run → (m n : ℕ) (p q : Point) → slice_get run m ≡ Some p → slice_get run n ≡ Some q
    → IsEdge run m n ↔ IsEdgeBetween run p q

-- the counts of a place cover the instructions that are its point's or before it
abbrev pub TimesCoverInstructions : Type 0
TimesCoverInstructions = (run : List Point) → IsInOrder run → (n : ℕ) (q : Point) (counts : ℕ → ℕ) → slice_get run n ≡ Some q
    → TimesOf run n counts → IsTimesOf run q counts

-- ---- kept accesses

-- each access that goes is one that all harts that are still live know of
abbrev pub AreAllKnown : List Point → (still : ℕ → Bool) → ℕ → List Kept → (goes : Kept → Bool) → Type 0
AreAllKnown run still word kept goes = (k : Kept) (m : ℕ) → In kept k → KeptAt run word m k → IsTrue (goes k) → AllKnow run still m

-- accesses that all live harts know of may go, and harts may end: what is left suffices for those that are still live
abbrev pub KnownAccessesMayGo : Type 0
KnownAccessesMayGo = (run : List Point) (live still : ℕ → Bool) (word : ℕ) (kept : List Kept) (goes : Kept → Bool)
    → ((hart : ℕ) → IsTrue (still hart) → IsTrue (live hart)) → AreAllKnown run still word kept goes
    → Suffices run live word kept → Suffices run still word (filter (λ k. not (goes k)) kept)
