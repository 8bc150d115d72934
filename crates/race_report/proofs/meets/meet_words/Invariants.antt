use Rattle.race_report.proofs.Common.{◌≡◌, ◌-◌, ◌%◌, ℕ, List, length, count_of, words_from, met_words, IsTracked, lists_of}
use Rattle.race_report.proofs.meets.meet_words.Given as goal

abbrev pub invariant-loop : goal.invariant-loop
invariant-loop l = record {
  aligned : l.word % 4 ≡ 0;
  same : length (lists_of l.found) ≡ length (lists_of l.fn.found);
  met : (places : ℕ → ℕ → List ℕ) → ((g w : ℕ) → w % 4 ≡ 0 → IsTracked l.track g w (places g w))
      → met_words l.point.place l.point.hart (count_of l.point.known) places l.harts (words_from l.word (l.fn.touch.count - l.counter)) (lists_of l.found)
      ≡ met_words l.point.place l.point.hart (count_of l.point.known) places l.harts (words_from l.fn.touch.first l.fn.touch.count) (lists_of l.fn.found);
}
