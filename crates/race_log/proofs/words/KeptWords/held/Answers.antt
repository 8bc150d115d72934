use Rattle.race_log.proofs.Common.{◌≡◌, ◌∙◌, ◌+◌, ◌*◌, ◌<◌, arith, ap, sym, length, slice_get, slots_of, sum_below, kept_in, epoch_counts}
use Rattle.race_log.proofs.PagesLemmas.{page_at, page_sum}
use Rattle.race_log.proofs.SweepLemmas.{sum_none, sum_parts}
use Rattle.race_log.proofs.words.KeptWords.held.Goals as goal

pub loop-number-init : goal.loop-number-init
loop-number-init c = record { held = sym (sum_none (λ i. length (kept_in c.args.self.now (4 * i)))); few = omega arith }

pub loop-number-preserved : goal.loop-number-preserved
loop-number-preserved c =
    let s = c.args.self.now in
    let n = c.loop-number.number in
    let i = c.loop-number.invariant in
    let low : n < length s.pages.items = omega (arith, c.loop-number-test.true, c.len-number-end.ensures, s.pages.ok) in
    let was : slots_of (slice_get s.pages.items n) ≡ c.deref.result.now = page_at s.pages.items n c.index.result.now low c.index.ensures ∙ sym c.deref.ensures.value in
    let next : 64 * (n + 1) ≡ 64 * n + 64 = omega arith in
    let parts : sum_below (λ i. length (kept_in s (4 * i))) (64 * (n + 1)) ≡ sum_below (λ i. length (kept_in s (4 * i))) (64 * n) + sum_below (λ i. length (kept_in s (4 * (64 * n + i)))) 64
    = ap (sum_below (λ i. length (kept_in s (4 * i)))) next ∙ sum_parts (λ i. length (kept_in s (4 * i))) (64 * n) 64 in
    let page : c.held_page-held.result ≡ sum_below (λ i. length (kept_in s (4 * (64 * n + i)))) 64
    = c.held_page-held.ensures.held (epoch_counts s.epochs) ∙ sym (page_sum (epoch_counts s.epochs) s.harts s.pages.items n c.deref.result.now was) in
    record {
      held = omega (arith, parts, page, i.held);
      few = omega (arith, i.few, c.held_page-held.ensures.few);
    }
