use Rattle.race_log.proofs.Common.{◌∙◌, ◌+◌, ◌*◌, ◌/◌, arith, sym, ap, length, inl, inr, cases_eq, cases_lt, uncovered, kept_in, epoch_counts}
use Rattle.race_log.proofs.PagesLemmas.{past_word}
use Rattle.race_log.proofs.SweepLemmas.{page_step}
use Rattle.race_log.proofs.SizeLemmas.{more_size}
use Rattle.race_log.proofs.words.KeptWords.sweep.Goals as goal

pub loop-number-preserved : goal.loop-number-preserved
loop-number-preserved c =
    let i = c.loop-number.invariant in
    let e = c.sweep_page-gone.ensures in
    let k = c.loop-number.number in
    let old = c.args.self.now in
    let mid = c.loop-number.self in
    let new = c.sweep_page-gone.new.self in
    record {
      harts = e.harts ∙ i.harts;
      epochs = e.epochs ∙ i.epochs;
      pages = e.pages ∙ i.pages;
      few = omega (arith, e.few, i.few);
      done = λ w low. elim (cases_eq (w / 256) k) [
        | inl same ↦ e.kept w same ∙ ap (uncovered c.args.known.now) (i.left w (omega (arith, same)))
        | inr apart ↦ e.others w apart ∙ i.done w (omega (arith, low, apart))
      ];
      left = λ w high. e.others w (λ same. omega (arith, same, high)) ∙ i.left w (omega (arith, high));
      gone = page_step (λ n. length (kept_in old (4 * n))) (λ n. length (kept_in mid (4 * n))) (λ n. length (kept_in new (4 * n))) k c.loop-number.gone c.sweep_page-gone.result
          i.gone e.gone (λ n low. ap length (e.others (4 * n) (λ same. omega (arith, same, low))))
          (λ n low. ap length (i.left (4 * (64 * k + n)) (omega (arith, low))));
      size = more_size old mid new i.size e.size;
      room = λ w. e.room w ∙ i.room w;
    }

pub returns-clause-kept : goal.returns-clause-kept
returns-clause-kept c = λ w.
    let old = c.args.self.now in
    let i = c.loop-number.invariant in
    elim (cases_lt (w / 256) c.loop-number.number) [
      | inl low ↦ i.done w low
      | inr high ↦
          let none = past_word (epoch_counts old.epochs) old.harts old.pages.items w (omega (arith, high, c.loop-number-test.false, c.len-number-end.ensures, i.pages, c.args.self.now.pages.ok, c.loop-number.self.pages.ok)) in
          i.left w high ∙ (none ∙ sym (ap (uncovered c.args.known.now) none))
    ]
