-- What a step of a hart does.
use Rattle.std.specs.Prelude.{◌≡◌, ◌⊎◌, ℕ, List, [], ◌∷◌, slice_index, is_some, Option, Some, None, Result, Ok, Err}
use Rattle.joint_replay.specs.Common.{option_map, Row, HartState, ReplayError, OutOfMemory, Done, Refused, after_row, with_rows, outcome_only}
use Rattle.joint_replay.specs.declared.error.JointError.{JointError}
use Rattle.joint_replay.specs.declared.kinds.Stepped.{Stepped}
use Rattle.joint_replay.specs.declared.kinds.Stepped.TheVariants as has
use Rattle.joint_replay.specs.declared.calls.Asked.{Asked}
use Rattle.joint_replay.specs.declared.lane.Did.{Did}
use Rattle.joint_replay.specs.declared.lane.Moved.{Moved}
use Rattle.joint_replay.specs.declared.lane.Moved.TheVariants as to
use Rattle.joint_replay.specs.Lanes.{Cursor, Item, Passing, Doing, Ending, lane_step}
use Rattle.joint_replay.specs.Memory.{Bytes, filled, forget, put_access}
use Rattle.joint_replay.specs.Words.{bytes_at}
use Rattle.joint_replay.specs.Harts.{Running, HartLane}
use Rattle.joint_replay.specs.Calls.{bare_cursor, bare}

-- what a hart's registers ask of a system call
abbrev pub asked_by : HartState → Asked
asked_by s = record { number = slice_index s.x 17; file = slice_index s.x 10; buffer = slice_index s.x 11 }

-- the first address, and how many bytes
abbrev pub range_of : Bytes → ℕ × ℕ
range_of b = (b.first, b.count)

-- a row, with the bytes that it filled
abbrev pub did : HartState → Row → Did
did before row = record { row = row; filled = option_map range_of (filled before row) }

-- the next step of an interval isn't refused, unless it is out of memory
abbrev pub CursorUnrefused : Cursor → Type 0
CursorUnrefused c = (r : ReplayError) → c.left ≡ outcome_only (Refused r) → r ≡ OutOfMemory

-- the next step of a hart isn't refused, unless it is out of memory
abbrev pub LaneUnrefused : HartLane → Type 0
LaneUnrefused l = (r : ReplayError) → lane_step l.program l.lane ≡ Some (Err r) → r ≡ OutOfMemory

-- a step of the interval under way: its next row, or its end, or its refusal. If memory runs out, no refusal was to come, and
-- only what is left changes
abbrev pub CursorSteps : Running → Result (Option Did) ReplayError → Running → Type 0
CursorSteps old (Ok None) new = (old.cursor.left ≡ outcome_only Done) × (new ≡ old)
CursorSteps old (Ok (Some x)) new = (old.cursor.left ≡ with_rows (x.row ∷ []) new.cursor.left) × (x ≡ did old.cursor.state x.row) × (new.program ≡ old.program)
    × (new.cursor ≡ record { number = old.cursor.number; mark = old.cursor.mark; state = after_row old.program old.cursor.state x.row; left = new.cursor.left; faulted = is_some x.row.fault })
CursorSteps old (Err e) new = (new.program ≡ old.program)
    × (((old.cursor.left ≡ outcome_only (Refused e)) × (new.cursor ≡ old.cursor))
    ⊎ ((e ≡ OutOfMemory) × (bare_cursor new.cursor ≡ bare_cursor old.cursor) × CursorUnrefused old.cursor))

-- a step of a hart is told so, and what it wrote is its row
abbrev pub IsMoved : Item → Moved → Did → Type 0
IsMoved (Passing ic) m x = m ≡ to.Passed ic
IsMoved (Doing before row) m x = (m ≡ to.Row) × (x ≡ did before row)
IsMoved (Ending n mark) m x = m ≡ to.Ended n mark

-- a hart's next step is refused. If memory runs out, it wasn't to be refused, and only what is left of a replay changes
abbrev pub LaneRefuses : HartLane → ReplayError → HartLane → Type 0
LaneRefuses old e new = (new ≡ record old { lane = new.lane })
    × (((lane_step old.program old.lane ≡ Some (Err e)) × (new.lane ≡ old.lane))
    ⊎ ((e ≡ OutOfMemory) × (bare new.lane ≡ bare old.lane) × LaneUnrefused old))

-- a hart's next step is done, or refused
abbrev pub LaneSteps : HartLane → Result Moved ReplayError → Did → HartLane → Type 0
LaneSteps old (Ok m) x new = (item : Item) × (lane_step old.program old.lane ≡ Some (Ok (item, new.lane))) × IsMoved item m x × (new ≡ record old { lane = new.lane })
LaneSteps old (Err e) x new = LaneRefuses old e new

-- ---- what a step of hart h wrote

-- how a caller is told of it
abbrev pub stepped_by : ℕ → Moved → Did → Stepped
stepped_by h (to.Passed ic) x = has.Passed h ic
stepped_by h to.Row x = has.Did x.row
stepped_by h (to.Ended n m) x = has.Ended h n m

-- the same, or the error
abbrev pub told : ℕ → Result Moved JointError → Did → Result Stepped JointError
told h (Ok m) x = Ok (stepped_by h m x)
told h (Err e) x = Err e

-- the known words after it
abbrev pub noted : Moved → Did → List (ℕ × ℕ) → List (ℕ × ℕ)
noted (to.Passed ic) x ms = ms
noted to.Row x ms = put_access x.row.store (put_access x.row.load (forget (option_map bytes_at x.filled) ms))
noted (to.Ended n m) x ms = ms
