use Rattle.bugnet.proofs.Tested.{seeds_whole}
use Rattle.bugnet.proofs.laws.seeds_are_whole.Goals as goal

pub returns : goal.returns
returns c = seeds_whole c.seeded_lists_end.ensures
