use Rattle.first_load_bits.proofs.Common.{◌≡◌, ◌<◌, ◌≤◌, ℕ, length, get_or, Way}
use Rattle.first_load_bits.proofs.way.oldest.Given as goal

abbrev pub invariant-loop-at : goal.invariant-loop-at
invariant-loop-at l = record {
  within : l.oldest < length l.set;
  age : (d : Way) → l.least ≡ (get_or l.set l.oldest d).age;
  least : (k : ℕ) (d : Way) → k < l.at → (get_or l.set l.oldest d).age ≤ (get_or l.set k d).age;
}
