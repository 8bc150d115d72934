-- The points from which on the kept Edges order all conflicts.
use Rattle.std.specs.Prelude.{◌≡◌, ◌≤◌, ℕ, List, slice_get, Some}
use Rattle.race_laws.specs.Common.{Contains, Record, Header, Point, IsEdge}
use Rattle.race_laws.specs.Edges.{edge_between}

-- the point at place m is in an interval of its hart whose Header is among the records, or in a later one
pub record IsSinceHeader (records : List Record) (points : List Point) (m : ℕ) : Type 0 where
  pub point : Point
  pub at : slice_get points m ≡ Some point
  pub number : ℕ
  pub ic : ℕ
  pub pc : ℕ
  pub x : List ℕ
  pub header : Contains records (Header point.hart number ic pc x)
  pub since : ic ≤ point.count

-- m and n are an edge of Netzer's reduction, and its Edge is among the records
pub record KeptEdge (records : List Record) (points : List Point) (m n : ℕ) : Type 0 where
  pub edge : IsEdge points m n
  pub kept : Contains records (edge_between points m n)
