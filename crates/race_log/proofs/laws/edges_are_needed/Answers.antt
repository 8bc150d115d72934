use Rattle.race_log.proofs.EdgeLaws.{edges_needed}
use Rattle.race_log.proofs.laws.edges_are_needed.Goals as goal

pub returns : goal.returns
returns g c = λ run of. edges_needed run (g.P.PairSets.has of)
