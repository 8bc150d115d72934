use Rattle.race_laws.proofs.Common.{start, run_of, after_rows}
use Rattle.race_laws.proofs.Streams.{edges_are_netzers}
use Rattle.race_laws.proofs.Alone.{edges_alone}
use Rattle.race_laws.proofs.kept_edges_are_edges.Goals as goal

pub returns-clause-turns : goal.returns-clause-turns
returns-clause-turns c = λ s i input b setting legal.
    edges_alone (record { decide = c.tests_decide.ensures.edge; listed = c.listed_edges_are_all.ensures.all }) s (run_of s i input b) (edges_are_netzers.turns s i input b)

pub returns-clause-rows : goal.returns-clause-rows
returns-clause-rows c = λ s i input rows setting lawful.
    edges_alone (record { decide = c.tests_decide.ensures.edge; listed = c.listed_edges_are_all.ensures.all }) s (after_rows s i (start s i input) rows) (edges_are_netzers.rows s i input rows)
