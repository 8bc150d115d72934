use Rattle.hart_replay.proofs.Common.{◌≡◌, ◌+◌, ◌≤◌, drop, length, conditionals_in}
use Rattle.hart_replay.proofs.scan.count_conditionals.Given as goal

-- those counted and those after make all
abbrev pub invariant-loop-place : goal.invariant-loop-place
invariant-loop-place l = record {
  value : l.count + length (conditionals_in l.hart (drop l.place l.records)) ≡ length (conditionals_in l.hart (drop l.from l.records));
  bound : l.count ≤ l.place;
}
