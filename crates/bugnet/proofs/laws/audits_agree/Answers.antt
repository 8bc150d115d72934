use Rattle.bugnet.proofs.Agrees.{audits_agree}
use Rattle.bugnet.proofs.laws.audits_agree.Goals as goal

pub returns : goal.returns
returns c = audits_agree c.verdicts_are_unique.ensures c.whole_runs_have_no_error.ensures
