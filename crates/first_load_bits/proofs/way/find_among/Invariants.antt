use Rattle.first_load_bits.proofs.Common.{◌≡◌, ◌<◌, ℕ, false, get_or, Way, has_line}
use Rattle.first_load_bits.proofs.way.find_among.Given as goal

abbrev pub invariant-loop-at : goal.invariant-loop-at
invariant-loop-at l = (k : ℕ) (d : Way) → k < l.at → has_line l.line (get_or l.set k d) ≡ false
