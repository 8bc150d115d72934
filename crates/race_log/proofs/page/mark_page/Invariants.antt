use Rattle.race_log.proofs.Common.{◌≡◌, ◌<◌, ◌≤◌, ◌+◌, ℕ, length, IsTrue, Some, slice_get, Slot, is_marked, marks_in, epoch_counts}
use Rattle.race_log.proofs.page.mark_page.Given as goal

abbrev pub invariant-loop-slot : goal.invariant-loop-slot
invariant-loop-slot l = record {
  counts : (epoch h : ℕ) → epoch_counts l.epochs epoch h ≡ epoch_counts l.fn.epochs epoch h;
  present : l.epochs.present ≡ l.fn.epochs.present;
  next : l.epochs.next ≡ l.fn.epochs.next;
  size : length l.epochs.table.items ≡ length l.fn.epochs.table.items;
  few : marks_in l.epochs.table.items ≤ marks_in l.fn.epochs.table.items + l.slot-index;
  marks : (i : ℕ) → IsTrue (is_marked (slice_get l.fn.epochs.table.items i)) → IsTrue (is_marked (slice_get l.epochs.table.items i));
  marked : (at : ℕ) (s : Slot) → at < l.slot-index → slice_get l.page at ≡ Some s → s.epoch < length l.fn.epochs.table.items
      → IsTrue (is_marked (slice_get l.epochs.table.items s.epoch));
}
