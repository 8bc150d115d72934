-- What the definition says of a replay at its cursor: what its next instruction does, and what is to come.
use Rattle.std.specs.Prelude.{◌≡◌, ℕ, Bool, true, false, Option, Some, Result, Ok, Err}
use Rattle.hart_replay.specs.Common.{Row, after, Reply, Want, row_of}
use Rattle.hart_replay.specs.declared.interval_cursor.IntervalCursor.{IntervalCursor}
use Rattle.hart_replay.specs.declared.error.ReplayError.{ReplayError}
use Rattle.hart_replay.specs.Replay.{Outcome, Replayed, Interval, Position, Next, ask_step, one_step, left_over, ended}
use Rattle.hart_replay.specs.Coming.{without_rows}
use Rattle.hart_replay.specs.Sides.{Side, Does, Keeps, interval_at, position_at, side, side_to_come}

-- what it knows from its log and its rows
abbrev pub side_of : IntervalCursor → Side
side_of c = side c.loads c.conditionals c.words.pages

-- the interval from the cursor's state on
abbrev pub interval_of_cursor : IntervalCursor → Interval
interval_of_cursor c = interval_at c.state c.mark (side_of c)

-- its position in that interval
abbrev pub position_of : IntervalCursor → Position
position_of c = position_at c.state c.called (side_of c)

-- the next instruction, if it asks this
abbrev pub next_asked : IntervalCursor → Want → Next
next_asked c k = ask_step c.image.now c.hart (interval_of_cursor c) (position_of c) k

-- the next instruction
abbrev pub next_of : IntervalCursor → Next
next_of c = one_step c.image.now c.hart (interval_of_cursor c) (position_of c)

-- the instruction is done as the definition says, with its row, from one cursor to another
abbrev pub CursorDoes : IntervalCursor → Next → Result (Unit {0}) ReplayError → Row → IntervalCursor → Type 0
CursorDoes old n result row new = Does (side_of old) n old.state result row new.state new.called (side_of new)

-- an instruction was done, or else this refusal is kept
abbrev pub answered : Bool → Option (Result (Unit {0}) ReplayError) → Result (Unit {0}) ReplayError
answered true kept = Ok tt
answered false (Some (Err e)) = Err e
answered false kept = Ok tt

-- the row of an asking instruction that got this reply
abbrev pub replied_row : IntervalCursor → Want → Reply → Option (ℕ × ℕ) → Option (ℕ × ℕ) → Row
replied_row c k reply load store = row_of c.hart c.image.now c.state (after k reply c.state) load store

-- the cursor after it, but for its words
abbrev pub replied : IntervalCursor → Want → Reply → IntervalCursor
replied c k reply = record c { state = after k reply c.state; called = false }

-- the instruction is done, with this row, and the word that the row tells is kept
abbrev pub DoneAndKept : IntervalCursor → Want → Reply → (load store : Option (ℕ × ℕ)) → (ℕ × ℕ) → Row → IntervalCursor → Type 0
DoneAndKept old k reply load store word row new =
    (row ≡ replied_row old k reply load store) × Keeps old.words.pages word new.words.pages × (new ≡ record (replied old k reply) { words = new.words })

-- what is left of the log
abbrev pub left_of : IntervalCursor → Outcome
left_of c = left_over c.hart (interval_of_cursor c) (without_rows (position_of c))

-- the end, at the mark's count
abbrev pub end_of : IntervalCursor → Replayed
end_of c = ended c.image.now c.hart (interval_of_cursor c) (without_rows (position_of c))

-- the rows that are to come, and the outcome
abbrev pub cursor_to_come : IntervalCursor → Replayed
cursor_to_come c = side_to_come c.image.now c.hart c.mark c.state c.called (side_of c)
