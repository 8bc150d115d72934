use Rattle.log_blocks.proofs.Common.{◌≡◌, ◌++◌, drop, flat_map, bytes_of}
use Rattle.log_blocks.proofs.writing.push_records.Given as goal

abbrev pub invariant-loop-place : goal.invariant-loop-place
invariant-loop-place l = l.out.items ++ flat_map bytes_of (drop l.place l.records) ≡ l.fn.out.items ++ flat_map bytes_of l.records
