use Rattle.run_model.proofs.MoveOn.{ask_moves}
use Rattle.run_model.proofs.laws.each_turn_moves_on.Goals as goal

pub returns : goal.returns
returns c s i m h k ask small fit live e = ask_moves c.exits_alone_end.ensures s i m h k ask small fit live e
