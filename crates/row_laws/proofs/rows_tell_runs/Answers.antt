use Rattle.row_laws.proofs.Lists.{rows_tell_runs}
use Rattle.row_laws.proofs.rows_tell_runs.Goals as goal

pub returns : goal.returns
returns c = rows_tell_runs (record { asks = c.own_asks_are_orderly.ensures; moves = c.turns_move_their_hart.ensures })
