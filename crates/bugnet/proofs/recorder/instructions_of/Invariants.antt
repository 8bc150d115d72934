use Rattle.bugnet.proofs.Sums.{Summing}
use Rattle.bugnet.proofs.recorder.instructions_of.Given as goal

abbrev pub invariant-loop-place : goal.invariant-loop-place
invariant-loop-place l = Summing l.marks l.place l.sum
