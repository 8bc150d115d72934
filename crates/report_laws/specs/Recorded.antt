-- The points of a recording's retained rows, in the order in which the run did them.
use Rattle.std.specs.Prelude.{◌≡◌, ℕ, ◌==◌, Bool, cond, List, [], take, slice_get, Some, None}
use Rattle.std.specs.List.{list_any, flat_map}
use Rattle.bn_base.specs.declared.row.Row.{Row}
use Rattle.log_record.specs.declared.record.Record.{Record}
use Rattle.race_log.specs.Points.{Point}
use Rattle.race_report.specs.Points.{Accessing, accessing, touch_of, accesses_of}
use Rattle.row_laws.specs.States.{state_after}
use Rattle.joint_laws.specs.Recordings.{Recording, points_of, rows_of_hart, first_state, retained_rows}

-- row number k of hart h, with what it accesses by itself and the state before it, if it accesses a word
abbrev pub accessing_at : Recording → (h k : ℕ) → List Accessing
accessing_at r h k = elim (slice_get (rows_of_hart r h) k) [ None ↦ [] | Some row ↦ accessing h row (touch_of (state_after r.program (first_state r h) (take k (rows_of_hart r h))) row) ]

-- a retained row of the hart has this count
abbrev pub is_kept : Recording → List Record → (h k : ℕ) → Bool
is_kept r records h k = list_any (λ row. row.ic == k) (retained_rows r records h)

-- the access of a point's row with the state before it, if the row is retained
abbrev pub kept_at : Recording → List Record → Point → List Accessing
kept_at r records p = cond (is_kept r records p.hart p.count) (accessing_at r p.hart p.count) []

-- the points of the run, in its order, of which the rows are retained, each with its row
unfoldable pub recorded_points : Recording → List Record → List Accessing
recorded_points r records = flat_map (kept_at r records) (points_of r)

-- the point of the run at a place is the one of a row: of its hart and count, with the same accesses
pub record IsPointOf (r : Recording) (p : Accessing) (place : ℕ) : Type 0 where
  pub point : Point
  pub at : slice_get (points_of r) place ≡ Some point
  pub hart : point.hart ≡ p.hart
  pub count : point.count ≡ p.row.ic
  pub accesses : point.accesses ≡ accesses_of p.touch
