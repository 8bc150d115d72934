use Rattle.std.proofs.Common.{◌≡◌, ◌*◌, length}
use Rattle.base_cases.proofs.memory.after.Given as goal

abbrev pub invariant-loop-step : goal.invariant-loop-step
invariant-loop-step l = 4 * length l.memory.words ≡ l.size
