use Rattle.log_file.proofs.Common.{◌-◌, ◌≤◌, List, length, ◌≡◌, flat_map, AllByRecursion, Record, bytes_of, Fits}
use Rattle.log_file.proofs.Walks.{Left}
use Rattle.log_file.proofs.counting.late_edge.Given as goal

abbrev pub invariant-loop-rest : goal.invariant-loop-rest
invariant-loop-rest l = record {
  near : length l.rest ≤ length l.bytes;
  left : (rs : List Record) → AllByRecursion (Fits l.format) rs → l.bytes ≡ flat_map bytes_of rs → Left l.format l.harts rs (length l.bytes - length l.rest) l.rest;
}

abbrev pub decreases-loop-rest : goal.decreases-loop-rest
decreases-loop-rest l = length l.rest
