use Rattle.log_commands.proofs.Worked.{empty_is_none}
use Rattle.log_commands.proofs.examples.an_empty_file_is_no_log.Goals as goal

pub returns : goal.returns
returns c = λ k s. empty_is_none k s
