use Rattle.std.proofs.Common.{◌≤◌}
use Rattle.base_cases.proofs.caches.print_answers.Given as goal

abbrev pub invariant-loop-place : goal.invariant-loop-place
invariant-loop-place g l = l.cache.steps ≤ l.place
