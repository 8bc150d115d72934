use Rattle.row_laws.proofs.Whole.{run_rows_tell_words}
use Rattle.row_laws.proofs.run_rows_tell_words.Goals as goal

pub returns : goal.returns
returns c = run_rows_tell_words (record { asks = c.own_asks_are_orderly.ensures; moves = c.turns_move_their_hart.ensures })
