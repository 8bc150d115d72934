use Rattle.run_files.proofs.Common.{◌≡◌, take, replicate}
use Rattle.run_files.proofs.auditing.turns_of_zero.Given as goal

abbrev pub invariant-loop-at : goal.invariant-loop-at
invariant-loop-at l = record {
  zeros : take l.at l.list ≡ replicate l.at 0;
}
