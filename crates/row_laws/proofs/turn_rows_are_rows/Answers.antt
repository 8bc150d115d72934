use Rattle.row_laws.proofs.Whole.{turn_rows_are_rows}
use Rattle.row_laws.proofs.turn_rows_are_rows.Goals as goal

pub returns : goal.returns
returns c = turn_rows_are_rows (record { asks = c.own_asks_are_orderly.ensures; moves = c.turns_move_their_hart.ensures })
