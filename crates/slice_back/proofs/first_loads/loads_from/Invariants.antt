use Rattle.slice_back.proofs.Common.{◌≡◌, ◌++◌, drop, loads_in}
use Rattle.slice_back.proofs.first_loads.loads_from.Given as goal

-- those gathered and those after make all
abbrev pub invariant-loop-place : goal.invariant-loop-place
invariant-loop-place l = l.loads.items ++ loads_in l.hart (drop l.place l.records) ≡ loads_in l.hart (drop l.from l.records)
