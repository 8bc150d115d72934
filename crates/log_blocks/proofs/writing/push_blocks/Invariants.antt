use Rattle.log_blocks.proofs.Common.{◌≡◌, ℕ, ◌≤◌, List, length, flat_map, AllByRecursion, Record, bytes_of, Fits}
use Rattle.log_blocks.proofs.Pushed.{PushedTo}
use Rattle.log_blocks.proofs.writing.push_blocks.Given as goal

abbrev pub invariant-loop-rest : goal.invariant-loop-rest
invariant-loop-rest l = record {
  within : length l.rest ≤ length l.records;
  pushed : (format : ℕ) (rs : List Record) → AllByRecursion (Fits format) rs → l.records ≡ flat_map bytes_of rs → PushedTo format l.digest rs l.dropped l.fn.out.items l.out.items l.rest l.before;
}

abbrev pub decreases-loop-rest : goal.decreases-loop-rest
decreases-loop-rest l = length l.rest
