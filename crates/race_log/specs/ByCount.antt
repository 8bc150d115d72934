-- Netzer's rule over instructions by hart and count, those among them that access nothing too.
use Rattle.std.specs.Prelude.{◌≡◌, ℕ, ◌<◌, ◌≤◌, ◌⊎◌, ◌↔◌, List, slice_get, Some, AllPairs}
use Rattle.race_log.specs.Points.{Point, IsConflict}

-- turns ascend along the run, and counts along each hart's points
pub record IsInOrder (run : List Point) : Type 0 where
  pub turns : AllPairs (λ p q. p.turn < q.turn) run
  pub counts : AllPairs (λ p q. p.hart ≡ q.hart → p.count < q.count) run

-- in a run whose points are in order, a hart's points ascend by their counts, and all points by their turns
pub record StandByCounts : Type 0 where
  pub counts : (run : List Point) → IsInOrder run → (m n : ℕ) (p q : Point) → slice_get run m ≡ Some p → slice_get run n ≡ Some q → p.hart ≡ q.hart
      → (m < n) ↔ (p.count < q.count)
  pub turns : (run : List Point) → IsInOrder run → (m n : ℕ) (p q : Point) → slice_get run m ≡ Some p → slice_get run n ≡ Some q
      → (m < n) ↔ (p.turn < q.turn)

-- p is a point of the run, that of the hart at the count
pub record IsPointAt (run : List Point) (hart count : ℕ) (p : Point) : Type 0 where
  pub place : ℕ
  pub at : slice_get run place ≡ Some p
  pub hart_is : p.hart ≡ hart
  pub count_is : p.count ≡ count

-- from a lower to a higher count of one hart, or from a point to a conflicting one of a later turn
pub data Step (run : List Point) : ℕ → ℕ → ℕ → ℕ → Type 0 where
  onward : {hart low high : ℕ} → low < high → Step run hart low hart high
  across : {hart count hart_to count_to : ℕ} (p q : Point) → IsPointAt run hart count p → IsPointAt run hart_to count_to q
      → p.turn < q.turn → IsConflict p q → Step run hart count hart_to count_to

-- a chain of such steps leads from one instruction to another
pub data Leads (run : List Point) (hart count : ℕ) : ℕ → ℕ → Type 0 where
  by_one : {hart_to count_to : ℕ} → Step run hart count hart_to count_to → Leads run hart count hart_to count_to
  by_more : {hart_on count_on hart_to count_to : ℕ} → Leads run hart count hart_on count_on → Step run hart_on count_on hart_to count_to
      → Leads run hart count hart_to count_to

-- p and q conflict, p's turn is the earlier one, and no third instruction is after p and before q
pub record IsEdgeBetween (run : List Point) (p q : Point) : Type 0 where
  pub conflicts : IsConflict p q
  pub earlier : p.turn < q.turn
  pub no_third : (hart count : ℕ) → Leads run p.hart p.count hart count → Leads run hart count q.hart q.count → ⊥

-- the hart's instruction at the count is p's or before it
abbrev pub IsUpTo : List Point → ℕ → ℕ → Point → Type 0
IsUpTo run hart count p = ((hart ≡ p.hart) × (count ≡ p.count)) ⊎ Leads run hart count p.hart p.count

-- for each hart the number of its instructions that are p's or before it
abbrev pub IsTimesOf : List Point → Point → (ℕ → ℕ) → Type 0
IsTimesOf run p counts = (hart count : ℕ) → (count < counts hart) ↔ IsUpTo run hart count p

-- p is the latest point of the hart in the run
pub record IsLatestPoint (run : List Point) (hart : ℕ) (p : Point) : Type 0 where
  pub place : ℕ
  pub at : slice_get run place ≡ Some p
  pub hart_is : p.hart ≡ hart
  pub no_later : (m : ℕ) (q : Point) → slice_get run m ≡ Some q → q.hart ≡ hart → m ≤ place
