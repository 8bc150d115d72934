use Rattle.bugnet.proofs.SalvagedLogs.{say_ends}
use Rattle.bugnet.proofs.laws.salvaged_logs_say_ends.Goals as goal

pub returns : goal.returns
returns c = say_ends c.salvaged_files_suffice.ensures c.files_are_read.ensures
