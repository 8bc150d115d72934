-- What each hart has to do in a joint replay, and one step of it.
use Rattle.std.specs.Prelude.{ℕ, ◌+◌, nat_lt, Bool, true, false, not, ◌&&◌, ◌||◌, List, [], ◌∷◌, length, is_some, Option, Some, None, Result, Ok, Err}
use Rattle.joint_replay.specs.Common.{Program, EndMark, Row, HartState, Record, ReplayError, Done, Refused, Replayed, Interval, interval_of, replayed, after_row}
use Rattle.joint_replay.specs.declared.kinds.Coming.{Coming}
use Rattle.joint_replay.specs.declared.kinds.Coming.TheVariants.{PassAt, RowAt, EndAt}
use Rattle.joint_replay.specs.Points.{intervals_in, ordering_points}

-- a retained interval: its number, its End's mark, the hart's state before the next row, what is left of its replay, and
-- whether the row of its fault was given
pub record Cursor : Type 0 where
  pub number : ℕ
  pub mark : EndMark
  pub state : HartState
  pub left : Replayed
  pub faulted : Bool

-- a hart: the counts of its ordering points that are left, and its retained intervals that aren't at their end
pub record Lane : Type 0 where
  pub points : List ℕ
  pub cursors : List Cursor

-- an interval before its first row, if its Header is there
abbrev pub with_cursor : Option Interval → ℕ → Replayed → List Cursor → List Cursor
with_cursor None n left cursors = cursors
with_cursor (Some v) n left cursors = record { number = n; mark = v.mark; state = v.start; left = left; faulted = false } ∷ cursors

-- the intervals of these numbers before their first rows, for those whose Headers are there
abbrev pub cursors_of : Program → List Record → ℕ → List ℕ → List Cursor
cursors_of i records h [] = []
cursors_of i records h (n ∷ ns) = with_cursor (interval_of h n records) n (replayed i records h n) (cursors_of i records h ns)

-- hart h before its first step
abbrev pub lane_of : Program → List Record → ℕ → Lane
lane_of i records h = record { points = ordering_points h records; cursors = cursors_of i records h (intervals_in h records) }

-- ---- what comes next

-- instructions are left up to the End's count
abbrev pub is_within : Cursor → Bool
is_within c = nat_lt c.state.ic c.mark.ic

-- a row comes: of an instruction, or of the fault that the End tells of (a reason above 16)
abbrev pub has_row : Cursor → Bool
has_row c = is_within c || (nat_lt 16 c.mark.reason && not c.faulted)

-- what the hart's next step is: it passes an ordering point, gives a row, or comes to its interval's end; None when it is done
abbrev pub coming_of : Lane → Option Coming
coming_of lane = elim lane.points [
  | p ∷ ps ↦ Some (PassAt p)
  | [] ↦ elim lane.cursors [ [] ↦ None | c ∷ cs ↦ elim (has_row c) [ true ↦ Some (RowAt c.state.ic) | false ↦ Some (EndAt c.mark.ic) ] ]
]

-- the count at which that step is
abbrev pub count_of : Coming → ℕ
count_of (PassAt ic) = ic
count_of (RowAt ic) = ic
count_of (EndAt ic) = ic

-- the point that the next step is at; a fault's row and an interval's end are at none
abbrev pub point_of : Lane → Option ℕ
point_of lane = elim lane.points [
  | p ∷ ps ↦ Some p
  | [] ↦ elim lane.cursors [ [] ↦ None | c ∷ cs ↦ elim (is_within c) [ true ↦ Some c.state.ic | false ↦ None ] ]
]

-- the state that a debugger shows: that of the interval under way
abbrev pub state_of : Lane → Option HartState
state_of lane = elim lane.points [
  | p ∷ ps ↦ None
  | [] ↦ elim lane.cursors [ [] ↦ None | c ∷ cs ↦ Some c.state ]
]

-- ---- one step

-- what a step did: it passed an ordering point; it did an instruction, from this state; it came to an interval's end
pub data Item : Type 0 where
  Passing : ℕ → Item
  Doing : HartState → Row → Item
  Ending : ℕ → EndMark → Item

-- an interval after its next row
abbrev pub row_given : Program → Cursor → Row → List Row → Cursor
row_given i c r rs = record { number = c.number; mark = c.mark; state = after_row i c.state r; left = record { rows = rs; outcome = c.left.outcome }; faulted = is_some r.fault }

-- the next step of the interval under way: its next row, its end, or its refusal
abbrev pub cursor_step : Program → Cursor → List Cursor → Result (Item × Lane) ReplayError
cursor_step i c cs = elim c.left.rows [
  | r ∷ rs ↦ Ok (Doing c.state r, record { points = []; cursors = row_given i c r rs ∷ cs })
  | [] ↦ elim c.left.outcome [ Done ↦ Ok (Ending c.number c.mark, record { points = []; cursors = cs }) | Refused e ↦ Err e ]
]

-- the next step of a hart, if it has one
abbrev pub lane_step : Program → Lane → Option (Result (Item × Lane) ReplayError)
lane_step i lane = elim lane.points [
  | p ∷ ps ↦ Some (Ok (Passing p, record { points = ps; cursors = lane.cursors }))
  | [] ↦ elim lane.cursors [ [] ↦ None | c ∷ cs ↦ Some (cursor_step i c cs) ]
]

-- how many steps an interval has left at most, and a hart
abbrev pub cursors_steps : List Cursor → ℕ
cursors_steps [] = 0
cursors_steps (c ∷ cs) = length c.left.rows + 1 + cursors_steps cs

-- how many steps a hart has left at most: its ordering points, and those of its intervals
abbrev pub lane_steps : Lane → ℕ
lane_steps lane = length lane.points + cursors_steps lane.cursors
