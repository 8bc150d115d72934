use Rattle.race_log.proofs.Common.{◌≡◌, ℕ, not, ◌||◌, nat_lt, has_bit, all_below, is_covered, times_of}
use Rattle.race_log.proofs.shadow.Shadow.known_to_all.Given as goal

abbrev pub invariant-loop-hart : goal.invariant-loop-hart
invariant-loop-hart l = record {
  known : (hart count : ℕ) → is_covered l.least hart count ≡ all_below (λ g. not (has_bit l.live g) || nat_lt count (times_of l.self g hart)) l.hart;
}
