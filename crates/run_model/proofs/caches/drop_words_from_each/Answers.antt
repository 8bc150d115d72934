use Rattle.run_model.proofs.Common.{arith, ◌≡◌, ℕ, length, subst, drops, IsDropped}
use Rattle.run_model.proofs.Histories.{dropped_more}
use Rattle.run_model.proofs.caches.drop_words_from_each.Goals as goal

pub loop-k-preserved : goal.loop-k-preserved
loop-k-preserved c =
    dropped_more c.args.spared (drops c.args.first c.args.count) c.loop-k.k c.args.caches.now c.loop-k.caches c.index-caches-k.result c.drop_unless.new.cache c.is_spared.result (omega arith) c.is_spared.ensures c.drop_unless.ensures.stands c.drop_unless.ensures.geometry c.drop_unless.ensures.steps c.loop-k.invariant

pub returns : goal.returns
returns c =
    let all : c.loop-k.k ≡ length c.args.caches.now = omega arith in
    subst (λ (n : ℕ). IsDropped c.args.spared (drops c.args.first c.args.count) n c.args.caches.now c.loop-k.caches) all c.loop-k.invariant
