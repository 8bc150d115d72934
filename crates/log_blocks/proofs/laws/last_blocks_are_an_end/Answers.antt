use Rattle.log_blocks.proofs.Ends.{last_blocks}
use Rattle.log_blocks.proofs.laws.last_blocks_are_an_end.Goals as goal

pub returns : goal.returns
returns c = λ dropped records front b back small e. last_blocks dropped records front b back small e
