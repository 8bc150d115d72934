-- Records that wait for a ring.
use Rattle.std.specs.Prelude.{◌≡◌, ℕ, ◌+◌, ◌-◌, ◌<◌, ◌≤◌, ◌^◌, List, [], ◌++◌, length}
use Rattle.log_record.specs.declared.record.Record.{Record}
use Rattle.log_ring.specs.Whole.{records_in, IsWhole}
use Rattle.log_ring.specs.Kept.{Held, kept}

-- a ring after these records: it keeps those that fit, and counts each of the others as dropped
abbrev pub after : Held → List Record → Held
after ring rs = record {
  records = kept ring.size (ring.records ++ rs);
  dropped = ring.dropped + (length ring.records + length rs) - length (kept ring.size (ring.records ++ rs));
  size = ring.size;
}

-- a ring after the records whose bytes wait
abbrev pub with_waiting : Held → List ℕ → Held
with_waiting ring bytes = after ring (records_in bytes)

-- the bytes that wait are those of whole records, and can be passed on to the ring
pub record CanWait (ring : Held) (bytes : List ℕ) : Type 0 where
  pub whole : IsWhole bytes
  pub small : length bytes ≤ ring.size
  pub count : 0 < length bytes → ring.dropped + length ring.records < 2 ^ 60

-- no more bytes wait than there is room for
pub record IsIntake (ring : Held) (bytes : List ℕ) (room : ℕ) : Type 0 where
  pub can : CanWait ring bytes
  pub least : 146 ≤ room
  pub most : room ≤ 640
  pub within : room ≤ ring.size
  pub few : length bytes ≤ room

-- all that waited went to the ring
pub record IsPassedOn (ring : Held) (bytes : List ℕ) (ring-new : Held) (bytes-new : List ℕ) : Type 0 where
  pub same : ring-new ≡ with_waiting ring bytes
  pub none : bytes-new ≡ []
