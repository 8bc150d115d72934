use Rattle.race_report.proofs.Common.{◌≡◌, ℕ, List, Accessing, races_by_first, IsGathered}
use Rattle.race_report.proofs.gathered.Gathered.races.Given as goal

abbrev pub invariant-loop-hart : goal.invariant-loop-hart
invariant-loop-hart l = (harts : ℕ) (run : List Accessing) → IsGathered harts run l.self → l.out.items ≡ races_by_first harts run l.hart
