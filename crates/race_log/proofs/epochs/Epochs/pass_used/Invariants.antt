use Rattle.race_log.proofs.Common.{◌≡◌, ◌≤◌, ◌<◌, ℕ, IsTrue, slice_get, is_settled, is_marked, has_epoch}
use Rattle.race_log.proofs.epochs.Epochs.pass_used.Given as goal

abbrev pub invariant-loop-place : goal.invariant-loop-place
invariant-loop-place l = record {
  place : l.self.next ≡ l.place;
  table : l.self.table ≡ l.initial.self.table;
  present : l.self.present ≡ l.initial.self.present;
  settled : (i : ℕ) → IsTrue (is_settled l.initial.self.table.items l.initial.self.next i) → IsTrue (is_settled l.self.table.items l.self.next i);
  ready : IsTrue (has_epoch l.initial.self) → l.self.next ≡ l.initial.self.next;
  passed : (i : ℕ) → l.initial.self.next ≤ i → i < l.self.next → IsTrue (is_marked (slice_get l.initial.self.table.items i));
}
