use Rattle.run_model.proofs.Common.{drops, IsDropped}
use Rattle.run_model.proofs.caches.drop_word_from_each.Given as goal

abbrev pub invariant-loop-k : goal.invariant-loop-k
invariant-loop-k l = IsDropped l.spared (drops l.first 1) l.k l.fn.caches l.caches
