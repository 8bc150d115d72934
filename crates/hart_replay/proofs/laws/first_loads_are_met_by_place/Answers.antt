use Rattle.hart_replay.proofs.Places.{logged-due, logged-met}
use Rattle.hart_replay.proofs.laws.first_loads_are_met_by_place.Goals as goal

pub returns : goal.returns
returns c = record { here = logged-due; behind = logged-met }
