use Rattle.race_log.proofs.Common.{◌≡◌, ◌<◌, ◌≤◌, ◌+◌, ◌*◌, ℕ, length, word_in, StaysSettled, uncovered, sum_below}
use Rattle.race_log.proofs.sweep.give_up_page.Given as goal

abbrev pub invariant-loop-word : goal.invariant-loop-word
invariant-loop-word l = record {
  len : length l.page.items ≡ length l.fn.page.items;
  few : l.gone ≤ 17 * l.word;
  done : (counts : ℕ → ℕ → ℕ) (n : ℕ) → n < l.word → word_in counts l.harts l.page.items (n * (l.harts + 1)) ≡ uncovered l.known (word_in counts l.harts l.fn.page.items (n * (l.harts + 1)));
  left : (counts : ℕ → ℕ → ℕ) (n : ℕ) → l.word ≤ n → word_in counts l.harts l.page.items (n * (l.harts + 1)) ≡ word_in counts l.harts l.fn.page.items (n * (l.harts + 1));
  gone : (counts : ℕ → ℕ → ℕ) → l.gone + sum_below (λ n. length (word_in counts l.harts l.page.items (n * (l.harts + 1)))) l.word
      ≡ sum_below (λ n. length (word_in counts l.harts l.fn.page.items (n * (l.harts + 1)))) l.word;
  settled : StaysSettled l.fn.page.items l.page.items 0;
}
