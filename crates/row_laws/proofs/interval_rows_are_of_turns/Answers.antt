use Rattle.row_laws.proofs.Intervals.{interval_rows}
use Rattle.row_laws.proofs.interval_rows_are_of_turns.Goals as goal

pub returns : goal.returns
returns c = interval_rows (record { asks = c.own_asks_are_orderly.ensures; moves = c.turns_move_their_hart.ensures }) c.intervals_begin_in_the_run.ensures
