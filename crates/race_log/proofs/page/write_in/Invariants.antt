use Rattle.race_log.proofs.Common.{◌≡◌, ◌<◌, ◌≤◌, ◌+◌, ℕ, Some, slice_get, length, Slot}
use Rattle.race_log.proofs.page.write_in.Given as goal

abbrev pub invariant-loop-hart : goal.invariant-loop-hart
invariant-loop-hart l = record {
  len : length l.page.items ≡ length l.fn.page.items;
  own : slice_get l.page.items l.at ≡ Some l.slot;
  none : (j : ℕ) (s : Slot) → l.at < j → j ≤ l.at + l.hart → slice_get l.page.items j ≡ Some s → (s.after ≡ 0) × (s.epoch ≡ 0);
  below : (j : ℕ) → j < l.at → slice_get l.page.items j ≡ slice_get l.fn.page.items j;
  above : (j : ℕ) → l.at + l.harts < j → slice_get l.page.items j ≡ slice_get l.fn.page.items j;
}
