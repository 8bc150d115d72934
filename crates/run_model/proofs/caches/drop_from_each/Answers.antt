use Rattle.run_model.proofs.Common.{ℕ, length, subst, sym, drops, IsDropped}
use Rattle.run_model.proofs.caches.drop_from_each.Goals as goal

pub returns-then-count-eq1 : goal.returns-then-count-eq1
returns-then-count-eq1 c =
    subst (λ (n : ℕ). IsDropped c.args.spared (drops c.args.first n) (length c.args.caches.now) c.args.caches.now c.drop_word_from_each.new.caches) (sym c.if-count-eq1.true) c.drop_word_from_each.ensures
