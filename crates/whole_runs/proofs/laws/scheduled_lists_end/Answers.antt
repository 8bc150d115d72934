use Rattle.whole_runs.proofs.ScheduleEnds.{scheduled_ends}
use Rattle.whole_runs.proofs.laws.scheduled_lists_end.Goals as goal

pub returns : goal.returns
returns c = scheduled_ends c.runs_end.ensures
