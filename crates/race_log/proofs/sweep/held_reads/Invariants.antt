use Rattle.race_log.proofs.Common.{◌≡◌, ◌≤◌, ℕ, length, reads_in}
use Rattle.race_log.proofs.sweep.held_reads.Given as goal

abbrev pub invariant-loop-other : goal.invariant-loop-other
invariant-loop-other l = record {
  held : (counts : ℕ → ℕ → ℕ) → l.held ≡ length (reads_in counts l.page l.at 0 l.other);
  few : l.held ≤ l.other;
}
