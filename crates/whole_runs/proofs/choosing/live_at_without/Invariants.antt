use Rattle.whole_runs.proofs.Common.{◌≡◌, ◌-◌, slice_get, Run, live_harts, IsState, without, live_without}
use Rattle.whole_runs.proofs.choosing.live_at_without.Given as goal

abbrev pub invariant-loop-hart : goal.invariant-loop-hart
invariant-loop-hart g l = record {
  value : (run : Run) → IsState l.bus run → slice_get (live_without l.bus.began run l.left_out) l.fn.number ≡ slice_get (live_harts l.hart (l.bus.began.settings.harts - l.hart) (without l.left_out run.harts)) l.left;
}
