-- Chains of program order and of pairs of instructions, each instruction by its hart and count.
use Rattle.std.specs.Prelude.{◌≢◌, ℕ, ◌<◌, List}
use Rattle.race_laws.specs.Common.{Contains, Record, Edge, Point, IsConflict, IsPointAt, IsEdgeBetween}

-- from a lower to a higher count of one hart, or along a pair
pub data StepBy (Pair : ℕ → ℕ → ℕ → ℕ → Type 0) : ℕ → ℕ → ℕ → ℕ → Type 0 where
  onward : {hart low high : ℕ} → low < high → StepBy Pair hart low hart high
  across : {hart count hart_to count_to : ℕ} → Pair hart count hart_to count_to → StepBy Pair hart count hart_to count_to

-- a chain of such steps leads from one instruction to another
pub data LeadsBy (Pair : ℕ → ℕ → ℕ → ℕ → Type 0) (hart count : ℕ) : ℕ → ℕ → Type 0 where
  by_one : {hart_to count_to : ℕ} → StepBy Pair hart count hart_to count_to → LeadsBy Pair hart count hart_to count_to
  by_more : {hart_on count_on hart_to count_to : ℕ} → LeadsBy Pair hart count hart_on count_on → StepBy Pair hart_on count_on hart_to count_to
      → LeadsBy Pair hart count hart_to count_to

-- the instructions are points of the run that conflict, the first of them of the earlier turn
pub record IsConflictAt (run : List Point) (hart count hart_to count_to : ℕ) : Type 0 where
  pub first : Point
  pub second : Point
  pub first_at : IsPointAt run hart count first
  pub second_at : IsPointAt run hart_to count_to second
  pub earlier : first.turn < second.turn
  pub conflict : IsConflict first second

-- they are an edge of Netzer's reduction
pub record IsEdgeAt (run : List Point) (hart count hart_to count_to : ℕ) : Type 0 where
  pub first : Point
  pub second : Point
  pub first_at : IsPointAt run hart count first
  pub second_at : IsPointAt run hart_to count_to second
  pub edge : IsEdgeBetween run first second

-- the Edge from the one to the other is among the records
abbrev pub EdgeAmong : List Record → ℕ → ℕ → ℕ → ℕ → Type 0
EdgeAmong rs hart count hart_to count_to = Contains rs (Edge hart_to count_to hart count)

-- the Edge from the one to the other is among the records, and is another than this one
abbrev pub OtherEdge : List Record → Record → ℕ → ℕ → ℕ → ℕ → Type 0
OtherEdge rs edge hart count hart_to count_to = EdgeAmong rs hart count hart_to count_to × (Edge hart_to count_to hart count ≢ edge)

-- the pairs are of instructions that conflict, the earlier one first, and their chains with program order order all conflicts
pub record OrderConflicts (run : List Point) (Pair : ℕ → ℕ → ℕ → ℕ → Type 0) : Type 0 where
  pub are : (hart count hart_to count_to : ℕ) → Pair hart count hart_to count_to → IsConflictAt run hart count hart_to count_to
  pub order : (hart count hart_to count_to : ℕ) → IsConflictAt run hart count hart_to count_to → LeadsBy Pair hart count hart_to count_to
