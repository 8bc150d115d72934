use Rattle.demo_run.proofs.Counts.{Adding}
use Rattle.demo_run.proofs.counting.count_rows.Given as goal

abbrev pub invariant-loop-place : goal.invariant-loop-place
invariant-loop-place l = Adding l.image l.log.records l.place l.rows
