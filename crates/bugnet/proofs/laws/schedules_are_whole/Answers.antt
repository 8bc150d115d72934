use Rattle.bugnet.proofs.Tested.{schedules_whole}
use Rattle.bugnet.proofs.laws.schedules_are_whole.Goals as goal

pub returns : goal.returns
returns c = schedules_whole c.scheduled_lists_end.ensures
