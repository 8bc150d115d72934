-- The states along a hart's rows.
use Rattle.std.specs.Prelude.{◌≡◌, ℕ, ⊤, true, List, [], ◌∷◌, ◌++◌}
use Rattle.row_laws.specs.Common.{Program, code_at, Row, RawSettings, HartState, after_row, rows_of, turn_rows, start, run_of, Run, ask_at, is_orderly}

-- the state after rows, each of them done as a replay takes it
abbrev pub state_after : Program → HartState → List Row → HartState
state_after i s [] = s
state_after i s (r ∷ rs) = state_after i (after_row i s r) rs

-- the rows from a state on are those of the instructions there: each has the hart's number, and the count, the pc and the code
-- word of the state before it
abbrev pub AreRowsFrom : ℕ → Program → HartState → List Row → Type 0
AreRowsFrom h i s [] = ⊤
AreRowsFrom h i s (r ∷ rs) = ((r.hart ≡ h) × (r.ic ≡ s.ic) × (r.pc ≡ s.pc) × (r.word ≡ code_at i s.pc)) × AreRowsFrom h i (after_row i s r) rs

-- r is one of the rows from state s on, and those in front of it lead to the state `before`
pub record HasRow (i : Program) (s : HartState) (rows : List Row) (before : HartState) (r : Row) : Type 0 where
  pub front : List Row
  pub back : List Row
  pub rows_are : rows ≡ front ++ r ∷ back
  pub state : before ≡ state_after i s front

-- r is one of the rows of hart h's next turn
abbrev pub TurnHasRow : RawSettings → Program → Run → ℕ → HartState → Row → Type 0
TurnHasRow c i run h before r = HasRow i (run.harts h).state (turn_rows c i run h) before r

-- r is one of hart h's rows over the turns of a list
abbrev pub RunHasRow : RawSettings → Program → (input b : List ℕ) → ℕ → HartState → Row → Type 0
RunHasRow c i input b h before r = HasRow i ((start c i input).harts h).state (rows_of c i (start c i input) b h) before r

-- r is a row of one of hart h's turns in the list, with the same state before it
pub record IsRowOfTurn (c : RawSettings) (i : Program) (input b : List ℕ) (h : ℕ) (before : HartState) (r : Row) : Type 0 where
  pub front : List ℕ
  pub back : List ℕ
  pub turns : b ≡ front ++ h ∷ back
  pub has : TurnHasRow c i (run_of c i input front) h before r

-- what hart h asks next is orderly, as it is after the turns of each legal list
abbrev pub AsksOrderly : RawSettings → Program → Run → ℕ → Type 0
AsksOrderly c i run h = is_orderly c i (run.harts h) (ask_at c i (run.harts h)) ≡ true
