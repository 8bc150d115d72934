use Rattle.race_log.specs.Netzer.{Chosen}
use Rattle.race_log.proofs.MergeLaws.{conflicts_stand, words_stand}
use Rattle.race_log.proofs.laws.late_edges_suffice.Goals as goal

pub returns-clause-conflicts : goal.returns-clause-conflicts
returns-clause-conflicts c = λ kept run edges order joins is respects first all m n low conflict kept_m kept_n.
    conflicts_stand kept run (Chosen edges) order is respects joins first all m n low conflict kept_m kept_n

pub returns-clause-words : goal.returns-clause-words
returns-clause-words c = λ kept run edges order joins is respects first all word m n low meet kept_m kept_n.
    words_stand kept run (Chosen edges) order is respects joins first all word m n low meet kept_m kept_n
