use Rattle.demo_run.proofs.Counts.{Summing}
use Rattle.demo_run.proofs.recording.counts_in.Given as goal

abbrev pub invariant-loop-place : goal.invariant-loop-place
invariant-loop-place l = Summing l.marks l.place l.sum
