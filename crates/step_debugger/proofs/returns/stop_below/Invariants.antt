use Rattle.step_debugger.proofs.Common.{◌≡◌, ◌-◌, length, stop_below}
use Rattle.step_debugger.proofs.returns.stop_below.Given as goal

-- those above have none
abbrev pub invariant-loop-passed : goal.invariant-loop-passed
invariant-loop-passed l = stop_below l.breaks l.trail.trace.entries (length l.trail.trace.entries) ≡ stop_below l.breaks l.trail.trace.entries (length l.trail.trace.entries - l.passed)
