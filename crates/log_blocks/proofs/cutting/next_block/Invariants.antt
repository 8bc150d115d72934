use Rattle.log_blocks.proofs.Common.{◌≡◌, ◌-◌, ◌≤◌, ℕ, List, length, flat_map, AllByRecursion, Record, bytes_of, Fits}
use Rattle.log_blocks.proofs.Firsts.{Begun}
use Rattle.log_blocks.proofs.cutting.next_block.Given as goal

abbrev pub invariant-loop-at : goal.invariant-loop-at
invariant-loop-at l = record {
  fewer : l.count ≤ l.at;
  within : l.at ≤ length l.bytes;
  few : l.at ≤ 4096;
  begun : (format : ℕ) (rs : List Record) → AllByRecursion (Fits format) rs → l.bytes ≡ flat_map bytes_of rs → Begun format l.bytes rs l.at l.count;
}

abbrev pub decreases-loop-at : goal.decreases-loop-at
decreases-loop-at l = length l.bytes - l.at
