use Rattle.race_report.proofs.Common.{◌≡◌, ◌++◌, ℕ, List, Accessing, races_by_second, IsGathered}
use Rattle.race_report.proofs.gathered.Gathered.push_first.Given as goal

abbrev pub invariant-loop-hart : goal.invariant-loop-hart
invariant-loop-hart l = (harts : ℕ) (run : List Accessing) → IsGathered harts run l.self → l.out.items ≡ l.fn.out.items ++ races_by_second run l.first l.hart
