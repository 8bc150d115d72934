-- What the rows of a run tell of its states, its words and its points. What is said of one turn is said of whichever run
-- there is before it; what is said of a list of turns, of every legal one.
use Rattle.std.specs.Prelude.{◌≡◌, ℕ, ◌<◌, ◌^◌, true, List, ◌++◌, length, slice_get, slice_index, Some, None}
use Rattle.std.specs.List.{AllByRecursion}
use Rattle.row_laws.specs.Common.{Program, Row, RawSettings, HartState, Point, Writes, Read, Write, after_row, rows_of, rows_in, turn_rows, start, run_of, legal_from, Run, turn}
use Rattle.bn_base.specs.Ranges.{IsSetting}
use Rattle.log_record.specs.declared.record.Record.{Record}
use Rattle.hart_replay.specs.Replay.{Interval, interval_of}
use Rattle.run_model.specs.KeptRecords.{IsEndOf}
use Rattle.replay_laws.specs.Law.{IsWhole, BeginsIn}
use Rattle.row_laws.specs.States.{state_after, AreRowsFrom, HasRow, TurnHasRow, RunHasRow, IsRowOfTurn, AsksOrderly}
use Rattle.row_laws.specs.Words.{word_told, word_point, Adds, IsPointOfTurn, HasWord}
use Rattle.row_laws.specs.Fills.{HasCodeWords, IsFillRow, IsFill, HasFill, HasWriter, HasWriterRow}
use Rattle.row_laws.specs.Calls.{IsSendRow, AddsCall, HasCall}

-- ---- states

-- Rows tell states. Along the rows of a turn, from the hart's state before it, each row is that of the instruction at the state
-- reached. The last state is the hart's after the turn
pub record RowsTellStates : Type 0 where
  pub each : (c : RawSettings) (i : Program) (run : Run) (h : ℕ) → AreRowsFrom h i (run.harts h).state (turn_rows c i run h)
  pub last : (c : RawSettings) (i : Program) (run : Run) (h : ℕ) → AsksOrderly c i run h → state_after i (run.harts h).state (turn_rows c i run h) ≡ ((turn c i run h).harts h).state

-- A register that a row writes has the row's contents in the state after it, if the hart has such a register
abbrev pub RowsTellRegisters : Type 0
RowsTellRegisters = (c : RawSettings) (i : Program) (run : Run) (h : ℕ) (before : HartState) (r : Row) (q : ℕ × ℕ)
    → TurnHasRow c i run h before r → r.reg ≡ Some q → q.0 < length before.x → slice_index (after_row i before r).x q.0 ≡ q.1

-- Rows tell states over the turns of a legal list too, from any of its turns on
abbrev pub RowsTellRuns : Type 0
RowsTellRuns = (c : RawSettings) (i : Program) (input a b : List ℕ) (h : ℕ) → IsSetting c → legal_from c i (start c i input) (a ++ b) ≡ true
    → let run = run_of c i input a in let rows = rows_of c i run b h in
    AreRowsFrom h i (run.harts h).state rows × (state_after i (run.harts h).state rows ≡ ((run_of c i input (a ++ b)).harts h).state)

-- A row of the run is that of a turn, with the same state before it
abbrev pub RowsAreOfTurns : Type 0
RowsAreOfTurns = (c : RawSettings) (i : Program) (input b : List ℕ) (h : ℕ) (before : HartState) (r : Row) → IsSetting c → legal_from c i (start c i input) b ≡ true
    → RunHasRow c i input b h before r → IsRowOfTurn c i input b h before r

-- A row of a turn is a row of the run, with the same state before it
abbrev pub TurnRowsAreRows : Type 0
TurnRowsAreRows = (c : RawSettings) (i : Program) (input b : List ℕ) (h : ℕ) (before : HartState) (r : Row) → IsSetting c → legal_from c i (start c i input) b ≡ true
    → IsRowOfTurn c i input b h before r → RunHasRow c i input b h before r

-- If an interval begins in the run, the rows of its hart before it lead to the Header's state
abbrev pub BeginningsTellStates : Type 0
BeginningsTellStates = (c : RawSettings) (i : Program) (input b : List ℕ) (h n : ℕ) (v : Interval) (x : BeginsIn c i input b h n v)
    → state_after i ((run_of c i input x.past).harts h).state x.before ≡ v.start

-- Take an interval whose Header stands in an end of the records. From the Header's state on, each of its rows is that of a
-- turn. So the state that a replay of the interval has before each row is the run's
abbrev pub IntervalRowsAreOfTurns : Type 0
IntervalRowsAreOfTurns = (c : RawSettings) (i : Program) (input b : List ℕ) (h n : ℕ) → IsSetting c → IsWhole c i input b
    → (rs : List Record) → IsEndOf (run_of c i input b).stream rs → (v : Interval) → interval_of h n rs ≡ Some v
    → (before : HartState) (r : Row) → HasRow i v.start (rows_in c i (start c i input) b h n) before r → IsRowOfTurn c i input b h before r

-- ---- words

-- Rows tell words. If a row of a turn tells a word, memory has it after that turn. The turn adds the point of the row's hart
-- and count that accesses this word alone, and writes it exactly if the row stores
abbrev pub RowsTellWords : Type 0
RowsTellWords = (c : RawSettings) (i : Program) (run : Run) (h : ℕ) (before : HartState) (r : Row) (a word : ℕ) → AsksOrderly c i run h
    → TurnHasRow c i run h before r → word_told r a ≡ Some word
    → ((turn c i run h).machine.memory a ≡ word) × Adds c i run h (word_point h run.turns r a)

-- If a row of the run tells a word, memory has it after that turn, and the run has the point that accesses it
abbrev pub RunRowsTellWords : Type 0
RunRowsTellWords = (c : RawSettings) (i : Program) (input b : List ℕ) (h : ℕ) (before : HartState) (r : Row) (a word : ℕ) → IsSetting c → legal_from c i (start c i input) b ≡ true
    → IsRowOfTurn c i input b h before r → word_told r a ≡ Some word → HasWord c i input b h r a word

-- A row that tells a word is of no fault
abbrev pub RowsThatTellHaveNoFault : Type 0
RowsThatTellHaveNoFault = (c : RawSettings) (i : Program) (run : Run) (h : ℕ) (before : HartState) (r : Row) (a word : ℕ)
    → TurnHasRow c i run h before r → word_told r a ≡ Some word → r.fault ≡ None

-- ---- points

-- Each point is the one that a turn of its hart added
abbrev pub PointsAreOfTurns : Type 0
PointsAreOfTurns = (c : RawSettings) (i : Program) (input b : List ℕ) (m : ℕ) (p : Point) → IsSetting c → legal_from c i (start c i input) b ≡ true
    → slice_get (run_of c i input b).points m ≡ Some p → IsPointOfTurn c i input b m p

-- Points that write have rows: a row of the turn that stores the word, or the row of a call that fills bytes of it
abbrev pub WritersHaveRows : Type 0
WritersHaveRows = (c : RawSettings) (i : Program) (run : Run) (h : ℕ) (p : Point) (a : ℕ) → HasCodeWords i → AsksOrderly c i run h
    → Adds c i run h p → Writes a p → HasWriter c i run h p a

-- Each point of a run that writes a word has a row that stores the word, or fills bytes of it
abbrev pub RunWritersHaveRows : Type 0
RunWritersHaveRows = (c : RawSettings) (i : Program) (input b : List ℕ) (m : ℕ) (p : Point) (a : ℕ) → IsSetting c → HasCodeWords i → legal_from c i (start c i input) b ≡ true
    → slice_get (run_of c i input b).points m ≡ Some p → Writes a p → HasWriterRow c i input b p a

-- The code words of a program have 32 bits if those of its segments have
abbrev pub PartsHaveCodeWords : Type 0
PartsHaveCodeWords = (i : Program) → AllByRecursion (λ p. AllByRecursion (λ w. w < 2 ^ 32) p.words) i.parts → HasCodeWords i

-- ---- fills

-- The row of a read call that gives bytes is a fill of the bytes from the address in a1 on
abbrev pub FillRowsFill : Type 0
FillRowsFill = (c : RawSettings) (i : Program) (run : Run) (h : ℕ) (before : HartState) (r : Row) (n : ℕ) → AsksOrderly c i run h
    → TurnHasRow c i run h before r → IsFillRow before r n → IsFill c i run h (slice_index before.x 11) n r.ic

-- The run has the point of each row of a read call that gives bytes, and it writes their words
abbrev pub RunFillRowsFill : Type 0
RunFillRowsFill = (c : RawSettings) (i : Program) (input b : List ℕ) (h : ℕ) (before : HartState) (r : Row) (n : ℕ) → IsSetting c → legal_from c i (start c i input) b ≡ true
    → IsRowOfTurn c i input b h before r → IsFillRow before r n → HasFill c i input b h r (slice_index before.x 11) n

-- ---- the words of calls

-- The row of a write call that takes bytes is a point that reads their words
abbrev pub SendRowsSend : Type 0
SendRowsSend = (c : RawSettings) (i : Program) (run : Run) (h : ℕ) (before : HartState) (r : Row) (n : ℕ) → AsksOrderly c i run h
    → TurnHasRow c i run h before r → IsSendRow before r n → AddsCall c i run h (slice_index before.x 11) n r.ic Read

-- Over a run the row of a call that fills or takes bytes is the point that accesses their words
pub record RunCallsAccess : Type 0 where
  pub fills : (c : RawSettings) (i : Program) (input b : List ℕ) (h : ℕ) (before : HartState) (r : Row) (n : ℕ) → IsSetting c → legal_from c i (start c i input) b ≡ true
      → IsRowOfTurn c i input b h before r → IsFillRow before r n → HasCall c i input b h r (slice_index before.x 11) n Write
  pub sends : (c : RawSettings) (i : Program) (input b : List ℕ) (h : ℕ) (before : HartState) (r : Row) (n : ℕ) → IsSetting c → legal_from c i (start c i input) b ≡ true
      → IsRowOfTurn c i input b h before r → IsSendRow before r n → HasCall c i input b h r (slice_index before.x 11) n Read
