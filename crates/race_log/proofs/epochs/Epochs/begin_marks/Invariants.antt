use Rattle.race_log.proofs.Common.{◌≡◌, ◌<◌, ◌≤◌, ◌+◌, ℕ, length, IsTrue, slice_get, is_marked, marks_in, epoch_counts, epoch_of}
use Rattle.race_log.proofs.epochs.Epochs.begin_marks.Given as goal

abbrev pub invariant-loop-hart : goal.invariant-loop-hart
invariant-loop-hart l = record {
  counts : (epoch h : ℕ) → epoch_counts l.self epoch h ≡ epoch_counts l.fn.self epoch h;
  present : l.self.present ≡ l.fn.self.present;
  next : l.self.next ≡ l.fn.self.next;
  size : length l.self.table.items ≡ length l.fn.self.table.items;
  few : marks_in l.self.table.items ≤ l.hart + 1;
  first : IsTrue (is_marked (slice_get l.self.table.items 0));
  marked : (g : ℕ) → g < l.hart → IsTrue (is_marked (slice_get l.self.table.items (epoch_of l.self g)));
}
