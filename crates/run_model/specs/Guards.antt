-- What a guard depends on, and that format 1 has none.
use Rattle.std.specs.Prelude.{◌≡◌, ◌==◌, ℕ, false, List}
use Rattle.run_model.specs.Common.{Program, RawSettings, Ask, Want, Record}
use Rattle.run_model.specs.Turn.{Run, serve, is_guarded}
use Rattle.run_model.specs.Rows.{rows_if, turn_rows, turn_rows_in}

-- with format 1 no ask is guarded, and all rows of a turn are of one interval
pub record FormatOneIsUnguarded : Type 0 where
  pub asks : (c : RawSettings) (run : Run) (k : ℕ) (want : Want) → c.format ≡ 1 → is_guarded c run k want ≡ false
  pub serves : (c : RawSettings) (i : Program) (run : Run) (k : ℕ) (ask : Ask) → c.format ≡ 1 → (serve c i run k ask).guarded ≡ false
  pub rows : (c : RawSettings) (i : Program) (run : Run) (k n : ℕ) → c.format ≡ 1 → turn_rows_in c i run k n ≡ rows_if ((run.harts k).number == n) (turn_rows c i run k)

-- The records themselves decide nothing: with the same machine, harts, caches, points, turns and number of bytes an ask is
-- answered and guarded alike, and all but the records is the same after it.
abbrev pub RecordsDecideNothing : Type 0
RecordsDecideNothing = (c : RawSettings) (i : Program) (run : Run) (stream : List Record) (k : ℕ) (ask : Ask) → let other = serve c i (record run { stream = stream }) k ask in let one = serve c i run k ask in
    (other.reply ≡ one.reply) × (other.guarded ≡ one.guarded) × (other.run ≡ record one.run { stream = other.run.stream })
