use Rattle.whole_runs.proofs.Common.{◌≡◌, ◌+◌, ◌-◌, ◌≤◌, length, Run, live_harts, IsState, without, live_without}
use Rattle.whole_runs.proofs.choosing.count_without.Given as goal

abbrev pub invariant-loop-hart : goal.invariant-loop-hart
invariant-loop-hart g l = record {
  few : l.count ≤ l.hart;
  value : (run : Run) → IsState l.bus run → length (live_without l.bus.began run l.left_out) ≡ l.count + length (live_harts l.hart (l.bus.began.settings.harts - l.hart) (without l.left_out run.harts));
}
