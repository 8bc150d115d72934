-- The laws of a run's races.
use Rattle.race_laws.proofs.Common.{◌≡◌, ◌↔◌, ℕ, refl, inl, inr, arith, subst, List, slice_get, Some, Program, IsSetting, RawSettings, TurnRow, Point, ProgramOrder, Conflict, Either, Chain, IsEdge, EndingAfter, one, more, IsInOrder, IsEdgeBetween, Run, start, after_rows, IsLawful, rows_from, edge_between, KeptEdge, HasOrder, HasEdgesByCount, KeepsLateEdges, OrdersConflicts, contains_in, in_contains}
use Rattle.log_ring.specs.Kept.{kept}
use Rattle.run_laws.specs.Laws.{TurnsAreLawful}
use Rattle.race_laws.specs.Runs.{OfLists, OfRows}
use Rattle.race_laws.proofs.Heads.{Heads, drop_heads, find_head}
use Rattle.race_laws.proofs.Turns.{Laws, Stands, rows_stand, start_stands}

-- what holds after lawful rows holds of the runs of lists
pub of_lists : (Law : RawSettings → Run → Type 0) → TurnsAreLawful → OfRows Law → OfLists Law
of_lists Law lawful rows c i input b setting legal =
    let l = lawful c i input b legal in
    subst (Law c) l.1 (rows c i input (rows_from c i (start c i input) b) setting l.0)

stands : Laws → (c : RawSettings) (i : Program) (input : List ℕ) (rows : List TurnRow) → IsSetting c → IsLawful c i (start c i input) rows → Stands c (after_rows c i (start c i input) rows)
stands laws c i input rows setting lawful = rows_stand laws c i (start c i input) rows setting lawful (start_stands c i input setting)

pub points_in_order : Laws → OfRows HasOrder
points_in_order laws c i input rows setting lawful = (stands laws c i input rows setting lawful).order.order

-- the law of edges by count
abbrev pub EdgesStandForCounts : Type 0
EdgesStandForCounts = (run : List Point) → IsInOrder run → (m n : ℕ) (p q : Point) → slice_get run m ≡ Some p → slice_get run n ≡ Some q → IsEdge run m n ↔ IsEdgeBetween run p q

pub edges_by_count : Laws → EdgesStandForCounts → OfRows HasEdgesByCount
edges_by_count laws counts c i input rows setting lawful = counts (after_rows c i (start c i input) rows).points (points_in_order laws c i input rows setting lawful)

-- ---- what is kept

end_late : (c : RawSettings) (run : Run) → Heads run.points run.stream → KeepsLateEdges c run
end_late c run heads rs end m since j n e =
    let behind : Heads run.points rs = drop_heads run.points end.front rs (subst (Heads run.points) end.parts heads) in
    let found = find_head run.points rs since.point.hart since.number since.ic since.pc since.x (contains_in rs _ since.header) behind in
    let low = found.head.since m since.point since.at refl since.since in
    let r = edge_between run.points j n in
    record { edge = e.0; kept = in_contains rs r (found.among r (found.head.behind j n (omega (arith, low, e.1)) e.0)) }

pub late_kept : Laws → OfRows KeepsLateEdges
late_kept laws c i input rows setting lawful = end_late c (after_rows c i (start c i input) rows) (stands laws c i input rows setting lawful).heads

-- ---- chains

-- the law of late edges
abbrev pub LateEdgesOrder : Type 0
LateEdgesOrder = (run : List Point) (m n : ℕ) → Conflict run m n → Chain (Either (ProgramOrder run) (EndingAfter m (IsEdge run))) m n

chain_map : {F G : ℕ → ℕ → Type 0} → ((m n : ℕ) → F m n → G m n) → {m n : ℕ} → Chain F m n → Chain G m n
chain_map f {m = m} {n = n} (one s) = one (f m n s)
chain_map f {m = m} {n = n} (more {k = k} c s) = more (chain_map f c) (f k n s)

ordered : LateEdgesOrder → (c : RawSettings) (run : Run) → KeepsLateEdges c run → OrdersConflicts c run
ordered late c run keeps rs end m n since conflict = chain_map step (late run.points m n conflict)
  where
    step : (j k : ℕ) → Either (ProgramOrder run.points) (EndingAfter m (IsEdge run.points)) j k → Either (ProgramOrder run.points) (KeptEdge rs run.points) j k
    step j k (inl o) = inl o
    step j k (inr e) = inr (keeps rs end m since j k e)

pub conflicts_ordered : Laws → LateEdgesOrder → OfRows OrdersConflicts
conflicts_ordered laws late c i input rows setting lawful = ordered late c (after_rows c i (start c i input) rows) (late_kept laws c i input rows setting lawful)
