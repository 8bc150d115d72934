use Rattle.std.proofs.Common.{◌≡◌, take}
use Rattle.run_files.proofs.auditing.compare.Given as goal

abbrev pub invariant-loop-at : goal.invariant-loop-at
invariant-loop-at l = take l.at l.log ≡ take l.at l.file
