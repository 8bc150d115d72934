use Rattle.bugnet.proofs.SalvagedLogs.{salvaged_replayed}
use Rattle.bugnet.proofs.laws.salvaged_logs_are_replayed.Goals as goal

pub returns : goal.returns
returns c = salvaged_replayed c.salvaged_files_suffice.ensures c.files_are_read.ensures c.headline.ensures
