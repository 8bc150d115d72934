use Rattle.race_log.proofs.Common.{◌/◌, ◌%◌, ◌==◌, cond, [], ap, epoch_counts, page_of, place_of}
use Rattle.race_log.proofs.PageLemmas.{word_counts}
use Rattle.race_log.proofs.words.KeptWords.go_on.Goals as goal

pub returns-then-learns-clause-kept : goal.returns-then-learns-clause-kept
returns-then-learns-clause-kept c = λ w.
    let old = c.args.self.now in
    ap (λ ks. cond (w % 4 == 0) ks [])
    (word_counts (epoch_counts old.epochs) (epoch_counts c.begin.new.self) old.harts (page_of old w) (place_of old.harts w)
    (λ j s at i h. c.begin.ensures.counts s.epoch (old.settled (w / 256) j s at) h i))
