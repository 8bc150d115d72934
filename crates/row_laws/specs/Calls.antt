-- The rows of write calls, and the words that read and write calls access.
use Rattle.std.specs.Prelude.{◌≡◌, ℕ, ◌+◌, ◌≤◌, ◌⊎◌, List, slice_get, slice_index, Some}
use Rattle.row_laws.specs.Common.{Program, Row, RawSettings, HartState, access_point, Point, aligned, word_count, run_of, Run}
use Rattle.race_log.specs.declared.mode.Mode.{Mode}
use Rattle.row_laws.specs.Fills.{result_of}
use Rattle.row_laws.specs.Words.{Adds}

-- the row of a write call that takes bytes: an ECALL with 64 in a7 and 1 or 2 in a0 before it, whose result is n, from 1 to 4,096
pub record IsSendRow (before : HartState) (r : Row) (n : ℕ) : Type 0 where
  pub ecall : r.word ≡ Some 0x73
  pub number : slice_index before.x 17 ≡ 64
  pub file : (slice_index before.x 10 ≡ 1) ⊎ (slice_index before.x 10 ≡ 2)
  pub answered : result_of r.reg ≡ Some n
  pub low : 1 ≤ n
  pub high : n ≤ 4096

-- hart h's turn adds the point of a call of n bytes: it accesses the words that they lie in, which are below the memory's size
pub record AddsCall (c : RawSettings) (i : Program) (run : Run) (h address n ic : ℕ) (mode : Mode) : Type 0 where
  pub adds : Adds c i run h (access_point h ic run.turns (aligned address) (word_count address n) mode)
  pub within : address + n ≤ i.memory

-- the run has the point of a row's call: it accesses the words in which n bytes lie
pub record HasCall (c : RawSettings) (i : Program) (input b : List ℕ) (h : ℕ) (r : Row) (address n : ℕ) (mode : Mode) : Type 0 where
  pub place : ℕ
  pub point : Point
  pub at : slice_get (run_of c i input b).points place ≡ Some point
  pub is : point ≡ access_point h r.ic point.turn (aligned address) (word_count address n) mode
  pub within : address + n ≤ i.memory
