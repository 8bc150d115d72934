use Rattle.hart_replay.proofs.Common.{◌≡◌, drop, mark_in}
use Rattle.hart_replay.proofs.scan.next_mark.Given as goal

-- no End stands before the place
abbrev pub invariant-loop-place : goal.invariant-loop-place
invariant-loop-place l = mark_in l.hart (drop l.place l.records) ≡ mark_in l.hart (drop l.from l.records)
