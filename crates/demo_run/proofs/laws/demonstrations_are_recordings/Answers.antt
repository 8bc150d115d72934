use Rattle.demo_run.proofs.Whole.{whole}
use Rattle.demo_run.proofs.laws.demonstrations_are_recordings.Goals as goal

pub returns : goal.returns
returns c = whole c.guests_are_loaded.ensures c.seeded_lists_end.ensures
