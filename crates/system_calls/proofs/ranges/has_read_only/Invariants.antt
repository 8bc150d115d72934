use Rattle.system_calls.proofs.Parts.{WritableBelow}
use Rattle.system_calls.proofs.ranges.has_read_only.Given as goal

abbrev pub invariant-loop-place : goal.invariant-loop-place
invariant-loop-place l = WritableBelow l.segments l.place l.from l.to
