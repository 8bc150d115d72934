-- What callers see of a book that keeps its rows.
use Rattle.std.specs.Prelude.{ℕ, List, []}
use Rattle.bn_outside.specs.declared.turn_row.TurnRow.{TurnRow}

-- the rows, the oldest first, and how many more can be noted
pub record BookState : Type 0 where
  pub rows : List TurnRow
  pub spare : ℕ

-- no row, and room for this many
abbrev pub empty_book : ℕ → BookState
empty_book spare = record { rows = []; spare = spare }
