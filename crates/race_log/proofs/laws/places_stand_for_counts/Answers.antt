use Rattle.std.proofs.Common.{refl, arith}
use Rattle.race_log.proofs.CountLaws.{leads_before, before_leads, edge_between, between_edge}
use Rattle.race_log.proofs.laws.places_stand_for_counts.Goals as goal

pub returns-clause-before : goal.returns-clause-before
returns-clause-before c = λ run up m n p q e f.
    (before_leads run up p q e f, λ l. leads_before run up l m n p q e f refl (omega arith) refl (omega arith))

pub returns-clause-edge : goal.returns-clause-edge
returns-clause-edge c = λ run up m n p q e f. (edge_between run up m n p q e f, between_edge run up m n p q e f)
