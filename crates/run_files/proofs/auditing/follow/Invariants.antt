use Rattle.run_files.proofs.Common.{◌≡◌, take, drop, Run, run_from, error_from, IsRun, parts}
use Rattle.run_files.proofs.auditing.follow.Given as goal

abbrev pub invariant-loop-at : goal.invariant-loop-at
invariant-loop-at l = record {
  start : l.plain.start ≡ l.initial.plain.start;
  run : (run : Run) → IsRun (parts l.initial.plain) run → let from = l.initial.plain.start in IsRun (parts l.plain) (run_from from.settings from.image run (take l.at l.list));
  judged : (run : Run) → IsRun (parts l.initial.plain) run → let from = l.initial.plain.start in let c = from.settings in let i = from.image in
      error_from c i run 0 l.list ≡ error_from c i (run_from c i run (take l.at l.list)) l.at (drop l.at l.list);
}
