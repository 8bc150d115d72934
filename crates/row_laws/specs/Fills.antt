-- The rows of system calls that fill bytes, and the rows of points that write.
use Rattle.std.specs.Prelude.{◌≡◌, ℕ, ◌+◌, ◌<◌, ◌≤◌, ◌^◌, ◌⊎◌, List, take, slice_get, slice_index, Option, Some, None}
use Rattle.row_laws.specs.Common.{Program, code_at, Row, RawSettings, HartState, at_address, access_point, Point, Writes, Write, aligned, call_of, filled, word_count, run_of, Run, turn, ask_at}
use Rattle.system_calls.specs.declared.effect.Plan.TheVariants as plans
use Rattle.row_laws.specs.States.{TurnHasRow, RunHasRow}
use Rattle.row_laws.specs.Words.{Adds, memory_after}

-- the code words of a program have 32 bits
abbrev pub HasCodeWords : Program → Type 0
HasCodeWords i = (a w : ℕ) → code_at i a ≡ Some w → w < 2 ^ 32

-- the contents of the register that a row writes
abbrev pub result_of : Option (ℕ × ℕ) → Option ℕ
result_of None = None
result_of (Some r) = Some r.1

-- the row of a read call that gives bytes: an ECALL with 63 in a7 and 0 in a0 before it, whose result is n, from 1 to 4,096
pub record IsFillRow (before : HartState) (r : Row) (n : ℕ) : Type 0 where
  pub ecall : r.word ≡ Some 0x73
  pub number : slice_index before.x 17 ≡ 63
  pub file : slice_index before.x 10 ≡ 0
  pub answered : result_of r.reg ≡ Some n
  pub low : 1 ≤ n
  pub high : n ≤ 4096

-- the aligned word at a has one of the n bytes from an address on
pub record HasByte (address n a : ℕ) : Type 0 where
  pub own : aligned a ≡ a
  pub from : aligned address ≤ a
  pub to : a < address + n

-- a read call's row fills bytes of the aligned word at a: some of those from the address in a1 on
pub record Fills (before : HartState) (r : Row) (a : ℕ) : Type 0 where
  pub count : ℕ
  pub row : IsFillRow before r count
  pub byte : HasByte (slice_index before.x 11) count a

-- the bytes that hart h's turn fills: its plan, memory after it, its point, and the words that this writes
pub record IsFill (c : RawSettings) (i : Program) (run : Run) (h address n ic : ℕ) : Type 0 where
  pub planned : call_of i run.machine (ask_at c i (run.harts h)).want ≡ Some (plans.Fill address n)
  pub memory : (turn c i run h).machine.memory ≡ filled address (take n run.machine.input) run.machine.memory
  pub adds : Adds c i run h (access_point h ic run.turns (aligned address) (word_count address n) Write)
  pub writes : (a : ℕ) → HasByte address n a → Writes a (access_point h ic run.turns (aligned address) (word_count address n) Write)

-- the run has the point of a call that fills, and it writes each word with one of the bytes
pub record HasFill (c : RawSettings) (i : Program) (input b : List ℕ) (h : ℕ) (r : Row) (address n : ℕ) : Type 0 where
  pub place : ℕ
  pub point : Point
  pub at : slice_get (run_of c i input b).points place ≡ Some point
  pub is : point ≡ access_point h r.ic point.turn (aligned address) (word_count address n) Write
  pub writes : (a : ℕ) → HasByte address n a → Writes a point

-- the point of hart h's turn that writes the word at a has a row: it stores the word that memory then has, or it fills bytes of it
pub record HasWriter (c : RawSettings) (i : Program) (run : Run) (h : ℕ) (p : Point) (a : ℕ) : Type 0 where
  pub before : HartState
  pub row : Row
  pub has : TurnHasRow c i run h before row
  pub hart : p.hart ≡ h
  pub count : p.count ≡ row.ic
  pub turn_is : p.turn ≡ run.turns
  pub writes : (at_address a row.store None ≡ Some ((turn c i run h).machine.memory a)) ⊎ Fills before row a

-- a point of the run that writes the word at a has a row: it stores the word that memory then has, or it fills bytes of it
pub record HasWriterRow (c : RawSettings) (i : Program) (input b : List ℕ) (p : Point) (a : ℕ) : Type 0 where
  pub before : HartState
  pub row : Row
  pub has : RunHasRow c i input b p.hart before row
  pub count : p.count ≡ row.ic
  pub writes : (at_address a row.store None ≡ Some (memory_after c i input b p.turn a)) ⊎ Fills before row a
