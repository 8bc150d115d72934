use Rattle.race_report.proofs.Common.{◌≡◌, ◌<◌, ℕ, List, length, IfSome, count_of, met_all, uncovered, IsTracked, lists_of}
use Rattle.race_report.proofs.Walking.{IsLeft}
use Rattle.race_report.proofs.Tracking.{left_of}
use Rattle.race_report.proofs.meets.meet_hart.Given as goal

abbrev pub invariant-back : goal.invariant-back
invariant-back l = record {
  same : length (lists_of l.found) ≡ length (lists_of l.fn.found);
  there : IfSome l.at (λ k. k < length l.track.entries.items);
  left : (ps : List ℕ) → IsTracked l.track l.hart l.word ps
      → IsLeft l.track.entries.items l.at (count_of l.point.known l.hart) l.point.place l.word (met_all l.point.place l.word (uncovered (count_of l.point.known l.hart) ps) (lists_of l.fn.found)) (lists_of l.found);
}

-- an entry's previous has a lower number
abbrev pub decreases-back : goal.decreases-back
decreases-back l = left_of l.at
