use Rattle.run_files.proofs.Common.{◌≡◌, ◌≤◌, ◌-◌, Run, HasTurned, IsRun, parts}
use Rattle.run_files.proofs.auditing.follow_alone.Given as goal

abbrev pub invariant-taking : goal.invariant-taking
invariant-taking l = record {
  start : l.plain.start ≡ l.initial.plain.start;
  few : l.taken ≤ l.most;
  turned : (run : Run) → IsRun (parts l.initial.plain) run → HasTurned (parts l.initial.plain) (parts l.plain) run l.taken;
}

abbrev pub decreases-taking : goal.decreases-taking
decreases-taking l = l.most - l.taken
