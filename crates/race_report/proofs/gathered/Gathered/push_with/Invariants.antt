use Rattle.race_report.proofs.Common.{◌≡◌, ◌++◌, ℕ, List, drop, Accessing, races_with, IsGathered}
use Rattle.race_report.proofs.gathered.Gathered.push_with.Given as goal

abbrev pub invariant-loop-k : goal.invariant-loop-k
invariant-loop-k l = (harts : ℕ) (run : List Accessing) → IsGathered harts run l.self
    → l.out.items ++ races_with run l.first l.hart (drop l.k l.meetings) ≡ l.fn.out.items ++ races_with run l.first l.hart l.meetings
