use Rattle.log_file.proofs.Common.{◌≡◌, ◌++◌, length, flat_map, AllByRecursion, bytes_of, Fits}
use Rattle.log_file.proofs.splitting.split.Given as goal

abbrev pub invariant-loop-entry : goal.invariant-loop-entry
invariant-loop-entry l = record {
  fit : AllByRecursion (Fits l.format) l.records;
  parts : l.bytes ≡ flat_map bytes_of l.records ++ l.rest;
}

abbrev pub decreases-loop-entry : goal.decreases-loop-entry
decreases-loop-entry l = length l.rest
