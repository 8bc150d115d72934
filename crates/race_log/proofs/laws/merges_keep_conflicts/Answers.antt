use Rattle.race_log.proofs.Common.{arith, refl, IsEdge, all_kept}
use Rattle.race_log.proofs.MergeLaws.{conflicts_stand, words_stand}
use Rattle.race_log.proofs.laws.merges_keep_conflicts.Goals as goal

pub returns-clause-conflicts : goal.returns-clause-conflicts
returns-clause-conflicts c = λ run order is respects m n conflict.
    conflicts_stand all_kept run (IsEdge run) order is respects (λ a b e. (e, refl, refl)) 0 (λ a b e. e.0) m n (omega arith) conflict refl refl

pub returns-clause-words : goal.returns-clause-words
returns-clause-words c = λ run order is respects word m n meet.
    words_stand all_kept run (IsEdge run) order is respects (λ a b e. (e, refl, refl)) 0 (λ a b e. e.0) word m n (omega arith) meet refl refl
