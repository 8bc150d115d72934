use Rattle.race_log.proofs.Common.{◌≡◌, ◌-◌, ℕ, true, count_of, latest, reads_in, found_as}
use Rattle.race_log.proofs.search.latest_read.Given as goal

abbrev pub invariant-loop-other : goal.invariant-loop-other
invariant-loop-other l =
    (counts : ℕ → ℕ → ℕ) → latest l.hart true (count_of l.times) (found_as counts l.best) (reads_in counts l.page l.at l.other (l.harts - l.other))
    ≡ latest l.hart true (count_of l.times) (found_as counts l.initial.best) (reads_in counts l.page l.at 0 l.harts)
