use Rattle.bugnet.proofs.Debugs.{prefixes_can_be_debugged}
use Rattle.bugnet.proofs.laws.prefixes_can_be_debugged.Goals as goal

pub returns : goal.returns
returns c = prefixes_can_be_debugged c.recordings_can_be_debugged.ensures c.refusals_stay.ensures
