use Rattle.run_model.proofs.Common.{◌≡◌, ◌<◌, ◌^◌, ℕ, has_bit, hart_in}
use Rattle.run_model.proofs.live.live_set.Given as goal

abbrev pub invariant-loop-number : goal.invariant-loop-number
invariant-loop-number l = record {
  own : (k : ℕ) → k < l.number → has_bit l.set k ≡ (hart_in l.harts k).live;
  below : l.set < 2 ^ l.number;
}
