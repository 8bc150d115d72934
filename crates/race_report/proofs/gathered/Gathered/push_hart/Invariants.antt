use Rattle.race_report.proofs.Common.{◌≡◌, ◌++◌, ℕ, List, Accessing, races_by_place, IsGathered}
use Rattle.race_report.proofs.gathered.Gathered.push_hart.Given as goal

abbrev pub invariant-loop-first : goal.invariant-loop-first
invariant-loop-first l = (harts : ℕ) (run : List Accessing) → IsGathered harts run l.self → l.out.items ≡ l.fn.out.items ++ races_by_place harts run l.hart l.first
