use Rattle.race_log.specs.Tests.{edge, edges_into}
use Rattle.race_log.proofs.EdgeLaws.{edge_is, is_edge}
use Rattle.race_log.proofs.Listed.{in_contains, contains_in, falling_pairs, listed_falls, listed_passes, passes_listed}
use Rattle.race_log.proofs.laws.listed_edges_are_all.Goals as goal

pub returns-clause-all : goal.returns-clause-all
unfolding edges_into
returns-clause-all c = λ run m n. (
  λ h. edge_is run m n (listed_passes (λ k. edge run k n) n m (contains_in (edges_into run n) m h)),
  λ e. in_contains (edges_into run n) m (passes_listed (λ k. edge run k n) n m e.conflicts.earlier (is_edge run m n e)),
)

pub returns-clause-falling : goal.returns-clause-falling
unfolding edges_into
returns-clause-falling c = λ run n. falling_pairs n (edges_into run n) (listed_falls (λ k. edge run k n) n)
