use Rattle.race_log.proofs.Common.{◌≡◌, ◌<◌, ◌≤◌, ◌+◌, ℕ, length, IsTrue, Some, slice_get, Slot, is_marked, marks_in, slots_of, epoch_counts, epoch_of, size_of, sum_below}
use Rattle.race_log.proofs.words.KeptWords.free_epochs.Given as goal

abbrev pub invariant-loop-number : goal.invariant-loop-number
invariant-loop-number l = record {
  harts : l.self.harts ≡ l.fn.self.harts;
  pages : l.self.pages ≡ l.fn.self.pages;
  counts : (epoch h : ℕ) → epoch_counts l.self.epochs epoch h ≡ epoch_counts l.fn.self.epochs epoch h;
  present : l.self.epochs.present ≡ l.fn.self.epochs.present;
  next : l.self.epochs.next ≡ l.fn.self.epochs.next;
  size : length l.self.epochs.table.items ≡ length l.fn.self.epochs.table.items;
  few : marks_in l.self.epochs.table.items ≤ 17 + sum_below (size_of l.fn.self) l.number;
  first : IsTrue (is_marked (slice_get l.self.epochs.table.items 0));
  own : (hart : ℕ) → IsTrue (is_marked (slice_get l.self.epochs.table.items (epoch_of l.self.epochs hart)));
  marked : (n at : ℕ) (s : Slot) → n < l.number → slice_get (slots_of (slice_get l.fn.self.pages.items n)) at ≡ Some s
      → IsTrue (is_marked (slice_get l.self.epochs.table.items s.epoch));
}
