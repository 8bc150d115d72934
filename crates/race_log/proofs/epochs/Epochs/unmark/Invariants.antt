use Rattle.race_log.proofs.Common.{◌≡◌, ◌<◌, ℕ, false, length, slice_get, is_marked, epoch_counts}
use Rattle.race_log.proofs.epochs.Epochs.unmark.Given as goal

abbrev pub invariant-loop-place : goal.invariant-loop-place
invariant-loop-place l = record {
  counts : (epoch h : ℕ) → epoch_counts l.self epoch h ≡ epoch_counts l.fn.self epoch h;
  present : l.self.present ≡ l.fn.self.present;
  next : l.self.next ≡ l.fn.self.next;
  none : (i : ℕ) → i < l.place → is_marked (slice_get l.self.table.items i) ≡ false;
  size : length l.self.table.items ≡ length l.fn.self.table.items;
}
