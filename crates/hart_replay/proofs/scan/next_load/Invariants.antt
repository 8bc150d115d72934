use Rattle.hart_replay.proofs.Common.{◌≡◌, drop, loads_in}
use Rattle.hart_replay.proofs.scan.next_load.Given as goal

-- no first load stands before the place
abbrev pub invariant-loop-place : goal.invariant-loop-place
invariant-loop-place l = loads_in l.hart (drop l.place l.records) ≡ loads_in l.hart (drop l.from l.records)
