use Rattle.hart_replay.proofs.Common.{◌≡◌, drop, conditionals_in}
use Rattle.hart_replay.proofs.scan.next_conditional.Given as goal

-- no store-conditional stands before the place
abbrev pub invariant-loop-place : goal.invariant-loop-place
invariant-loop-place l = conditionals_in l.hart (drop l.place l.records) ≡ conditionals_in l.hart (drop l.from l.records)
