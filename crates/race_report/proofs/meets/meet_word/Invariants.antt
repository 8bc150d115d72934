use Rattle.race_report.proofs.Common.{◌≡◌, ℕ, List, length, count_of, met_harts, IsTracked, lists_of}
use Rattle.race_report.proofs.meets.meet_word.Given as goal

abbrev pub invariant-loop-other : goal.invariant-loop-other
invariant-loop-other l = record {
  same : length (lists_of l.found) ≡ length (lists_of l.fn.found);
  met : (places : ℕ → List ℕ) → ((g : ℕ) → IsTracked l.track g l.word (places g))
      → lists_of l.found ≡ met_harts l.point.place l.word l.point.hart (count_of l.point.known) places l.other (lists_of l.fn.found);
}
