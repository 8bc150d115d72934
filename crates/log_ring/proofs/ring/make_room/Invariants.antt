use Rattle.log_ring.proofs.Common.{◌≡◌, ◌+◌, ◌*◌, ◌≤◌, length, IsWhole, records_in, kept}
use Rattle.log_ring.proofs.ring.make_room.Given as goal

abbrev pub invariant-oldest : goal.invariant-oldest
invariant-oldest l = record {
  whole : IsWhole l.bytes.items;
  capacity : l.bytes.capacity ≡ l.initial.bytes.capacity;
  records : kept l.room (records_in l.bytes.items) ≡ kept l.room (records_in l.initial.bytes.items);
  count : l.count + length (records_in l.bytes.items) ≡ length (records_in l.initial.bytes.items);
  spent : 2 * l.count + length l.bytes.items ≤ length l.initial.bytes.items;
  few : length l.initial.bytes.items ≤ l.room + 146 → l.count ≤ 73;
}

abbrev pub decreases-oldest : goal.decreases-oldest
decreases-oldest l = length l.bytes.items
