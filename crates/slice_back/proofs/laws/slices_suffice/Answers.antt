use Rattle.slice_back.proofs.Sufficing.{suffices}
use Rattle.slice_back.proofs.laws.slices_suffice.Goals as goal

pub returns : goal.returns
returns c = suffices c.first_loads_are_met_by_place.ensures
