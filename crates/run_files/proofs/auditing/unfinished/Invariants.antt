use Rattle.run_files.proofs.Common.{◌≡◌, ◌-◌, Run, live_harts, unfinished, IsRun, parts}
use Rattle.run_files.proofs.auditing.unfinished.Given as goal

abbrev pub invariant-loop-live : goal.invariant-loop-live
invariant-loop-live l = record {
  lowest : (run : Run) → IsRun (parts l.plain) run → let harts = l.plain.start.settings.harts in unfinished (live_harts 0 harts run.harts) ≡ unfinished (live_harts l.live (harts - l.live) run.harts);
}
