use Rattle.race_log.proofs.Common.{◌≡◌, ◌≤◌, ◌+◌, ◌*◌, ℕ, length, word_in, sum_below}
use Rattle.race_log.proofs.sweep.held_page.Given as goal

abbrev pub invariant-loop-word : goal.invariant-loop-word
invariant-loop-word l = record {
  held : (counts : ℕ → ℕ → ℕ) → l.held ≡ sum_below (λ n. length (word_in counts l.harts l.page (n * (l.harts + 1)))) l.word;
  few : l.held ≤ 17 * l.word;
}
