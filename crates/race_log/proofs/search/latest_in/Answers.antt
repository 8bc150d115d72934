use Rattle.race_log.proofs.Common.{◌+◌, ◌*◌, ◌-◌, ◌≡◌, ◌∙◌, ap, ap₂, sym, arith, count_of, gathered, latest, found_as, word_in, kept_in, epoch_counts}
use Rattle.race_log.proofs.Rounds.{latest-append, gathered_step}
use Rattle.race_log.proofs.SlotLemmas.{kept_aligned}
use Rattle.race_log.proofs.search.latest_in.Goals as goal

pub loop-i-preserved : goal.loop-i-preserved
loop-i-preserved c =
    let word = c.args.first + 4 * c.loop-i.i in
    let counts = epoch_counts c.args.words.now.epochs in
    let rest = gathered (kept_in c.args.words.now) (c.args.first + 4 * (c.loop-i.i + 1)) (c.args.count - (c.loop-i.i + 1)) in
    let before = found_as counts c.loop-i.best in
    let same : word_in counts c.args.words.now.harts c.page.result.now c.place.result ≡ kept_in c.args.words.now word =
    ap₂ (word_in counts c.args.words.now.harts) c.page.ensures c.place.ensures ∙ sym (kept_aligned c.args.words.now word (omega (arith, c.requires.aligned))) in
    let here = c.latest_of-best.ensures counts ∙ ap (λ ks. latest c.args.hart c.args.writes (count_of c.args.times.now) before ks) same in
    ap (λ best. latest c.args.hart c.args.writes (count_of c.args.times.now) best rest) here
    ∙ (sym (latest-append c.args.hart c.args.writes (count_of c.args.times.now) before (kept_in c.args.words.now word) rest)
    ∙ (ap (latest c.args.hart c.args.writes (count_of c.args.times.now) before)
    (sym (gathered_step (kept_in c.args.words.now) c.args.first c.args.count c.loop-i.i c.loop-i-test.true)) ∙ c.loop-i.invariant))
