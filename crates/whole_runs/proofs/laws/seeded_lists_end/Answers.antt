use Rattle.whole_runs.proofs.Seeds.{seeded_ends}
use Rattle.whole_runs.proofs.laws.seeded_lists_end.Goals as goal

pub returns : goal.returns
returns c = seeded_ends c.runs_end.ensures
