use Rattle.run_model.proofs.Common.{arith, ◌≡◌, ℕ, length, subst, drops, IsDropped}
use Rattle.run_model.proofs.Histories.{dropped_more}
use Rattle.run_model.proofs.caches.drop_word_from_each.Goals as goal

pub loop-k-preserved : goal.loop-k-preserved
loop-k-preserved c =
    dropped_more c.args.spared (drops c.args.first 1) c.loop-k.k c.args.caches.now c.loop-k.caches c.index-caches-k.result c.drop_placed_unless.new.cache c.is_spared.result (omega arith) c.is_spared.ensures c.drop_placed_unless.ensures.stands c.drop_placed_unless.ensures.geometry c.drop_placed_unless.ensures.steps c.loop-k.invariant

pub returns-after-loop-k : goal.returns-after-loop-k
returns-after-loop-k c =
    let all : c.loop-k.k ≡ length c.args.caches.now = omega arith in
    subst (λ (n : ℕ). IsDropped c.args.spared (drops c.args.first 1) n c.args.caches.now c.loop-k.caches) all c.loop-k.invariant
