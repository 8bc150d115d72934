use Rattle.race_log.proofs.Common.{◌≡◌, ◌<◌, ◌≤◌, ◌+◌, ℕ, length, slice_get, reads_in, StaysSettled, GivesUp}
use Rattle.race_log.proofs.sweep.give_up_reads.Given as goal

abbrev pub invariant-loop-other : goal.invariant-loop-other
invariant-loop-other l = record {
  len : length l.page.items ≡ length l.fn.page.items;
  few : l.gone ≤ l.other;
  kept : (counts : ℕ → ℕ → ℕ) → GivesUp l.known l.gone (reads_in counts l.fn.page.items l.at 0 l.other) (reads_in counts l.page.items l.at 0 l.other);
  below : (j : ℕ) → j < l.at → slice_get l.page.items j ≡ slice_get l.fn.page.items j;
  above : (j : ℕ) → l.at + l.other ≤ j → slice_get l.page.items j ≡ slice_get l.fn.page.items j;
  settled : StaysSettled l.fn.page.items l.page.items 0;
}
