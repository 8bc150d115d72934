use Rattle.bugnet.proofs.Debugs.{can_be_debugged}
use Rattle.bugnet.proofs.laws.recordings_can_be_debugged.Goals as goal

pub returns : goal.returns
returns c = can_be_debugged c.sessions_show_the_run.ensures
