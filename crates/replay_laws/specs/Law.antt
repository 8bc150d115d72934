-- What the last records of a run, as those that its log keeps, say of it. They are any end of a run's records in whole records.
-- The limit is below 2^63; the format is either.
use Rattle.std.specs.Prelude.{ℕ, ◌≡◌, ◌⊎◌, ◌+◌, ◌-◌, ◌<◌, ◌^◌, nat_lt, true, List, [], ◌∷◌, ◌++◌, length, map, take, drop, Some, if◌then◌else◌}
use Rattle.std.specs.List.{range_with_len}
use Rattle.replay_laws.specs.Common.{Program, RawSettings, Record, kept_of, IsEndOf, Run, ask_at, is_guarded, Interval, interval_of, replayed, Done}
use Rattle.bn_base.specs.declared.row.Row.{Row}
use Rattle.bn_base.specs.declared.state.HartState.{HartState}
use Rattle.run_model.specs.Rows.{rows_of, rows_in, quiet_part}
use Rattle.run_model.specs.Runs.{start, run_of, legal_from, has_finished}

-- the list of turns is legal, and finished
pub record IsWhole (c : RawSettings) (i : Program) (input b : List ℕ) : Type 0 where
  pub legal : legal_from c i (start c i input) b ≡ true
  pub over : has_finished c (run_of c i input b) ≡ true

-- Log sufficiency: what is left of a log is enough to replay it. Take a list of turns that is legal and finished, an end of its
-- stream, and an interval whose Header stands in that end. The replay of the interval is done, and its rows are the recorded
-- run's of it
abbrev pub EndsSuffice : Type 0
EndsSuffice = (c : RawSettings) (i : Program) (input b : List ℕ) (h n : ℕ) → c.limit < 2 ^ 63 → IsWhole c i input b → (rs : List Record) → IsEndOf (run_of c i input b).stream rs
    → (v : Interval) → interval_of h n rs ≡ Some v
    → replayed i rs h n ≡ record { rows = rows_in c i (start c i input) b h n; outcome = Done }

-- each interval whose Header a log keeps is replayed from the log as it was recorded
abbrev pub LogSuffices : Type 0
LogSuffices = (c : RawSettings) (i : Program) (input b : List ℕ) (h n : ℕ) → c.limit < 2 ^ 63 → IsWhole c i input b
    → (v : Interval) → interval_of h n (kept_of c (run_of c i input b)) ≡ Some v
    → replayed i (kept_of c (run_of c i input b)) h n ≡ record { rows = rows_in c i (start c i input) b h n; outcome = Done }

-- a fault has a row more, at the mark's count; its reason is above 16
abbrev pub rows_at_end : ℕ → ℕ
rows_at_end reason = if nat_lt 16 reason then 1 else 0

-- the count up to which an interval has rows
abbrev pub end_of : Interval → ℕ
end_of v = v.mark.ic + rows_at_end v.mark.reason

-- These rows are those of the hart from the Header's count to the End's, with the fault's row: a hart's row number k, from
-- 0, is that of its count k
abbrev pub RowsStandTogether : Type 0
RowsStandTogether = (c : RawSettings) (i : Program) (input b : List ℕ) (h n : ℕ) → c.limit < 2 ^ 63 → IsWhole c i input b
    → (rs : List Record) → IsEndOf (run_of c i input b).stream rs → (v : Interval) → interval_of h n rs ≡ Some v
    → rows_in c i (start c i input) b h n ≡ take (end_of v - v.start.ic) (drop v.start.ic (rows_of c i (start c i input) b h))

-- hart h is in state s before its next turn, so that no row of the turn comes before
pub record IsBeforeTurn (run : Run) (h : ℕ) (s : HartState) (before : List Row) : Type 0 where
  pub state : s ≡ (run.harts h).state
  pub none : before ≡ []

-- hart h's turn is the next one, its ask is guarded, and s is the state in which it asks, after the rows of its quiet
-- instructions
pub record IsAtGuard (c : RawSettings) (i : Program) (run : Run) (left : List ℕ) (h : ℕ) (s : HartState) (before : List Row) : Type 0 where
  pub later : List ℕ
  pub turn : left ≡ h ∷ later
  pub guarded : is_guarded c run h (ask_at c i (run.harts h)).want ≡ true
  pub state : s ≡ (ask_at c i (run.harts h)).state
  pub quiet : before ≡ quiet_part c i run h

-- The point where an interval begins in a list of turns. Some turns before it lead its hart to the Header's state; or the
-- hart's next turn has this state at a guarded ask. From there on the interval's rows are the hart's first ones
pub record BeginsIn (c : RawSettings) (i : Program) (input b : List ℕ) (h n : ℕ) (v : Interval) : Type 0 where
  pub past : List ℕ
  pub left : List ℕ
  pub turns : b ≡ past ++ left
  pub before : List Row
  pub begins : IsBeforeTurn (run_of c i input past) h v.start before ⊎ IsAtGuard c i (run_of c i input past) left h v.start before
  pub more : List Row
  pub rows : rows_of c i (run_of c i input past) left h ≡ before ++ (rows_in c i (start c i input) b h n ++ more)

-- An interval whose Header stands in an end of the records begins in the run, in the Header's state
abbrev pub IntervalsBegin : Type 0
IntervalsBegin = (c : RawSettings) (i : Program) (input b : List ℕ) (h n : ℕ) → c.limit < 2 ^ 63 → IsWhole c i input b
    → (rs : List Record) → IsEndOf (run_of c i input b).stream rs → (v : Interval) → interval_of h n rs ≡ Some v → BeginsIn c i input b h n v

-- A hart's rows have its counts, one after another from 0
abbrev pub RowsAreCounted : Type 0
RowsAreCounted = (c : RawSettings) (i : Program) (input b : List ℕ) (h : ℕ) → c.limit < 2 ^ 63 → IsWhole c i input b
    → map (λ r. r.ic) (rows_of c i (start c i input) b h) ≡ range_with_len 0 (length (rows_of c i (start c i input) b h))
