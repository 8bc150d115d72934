use Rattle.slice_back.proofs.Common.{◌-◌, drop, TellsLive}
use Rattle.slice_back.proofs.slicing.Slicing.over.Given as goal

-- the rows from a place on are told
abbrev pub invariant-loop-passed : goal.invariant-loop-passed
invariant-loop-passed l = TellsLive l.slicing (drop (l.count - l.passed) l.noted)
