use Rattle.race_laws.proofs.Common.{start, run_of, after_rows}
use Rattle.race_laws.proofs.Streams.{edges_are_netzers}
use Rattle.race_laws.proofs.Counts.{none_implied}
use Rattle.race_laws.proofs.no_edge_is_implied.Goals as goal

pub returns-clause-turns : goal.returns-clause-turns
returns-clause-turns c = λ s i input b setting legal.
    none_implied c.points_stand_by_counts.ensures (record { decide = c.tests_decide.ensures.edge; listed = c.listed_edges_are_all.ensures.all })
    s (run_of s i input b) (edges_are_netzers.turns s i input b) (c.points_are_in_order.ensures.turns s i input b setting legal)
    c.no_edge_follows.ensures

pub returns-clause-rows : goal.returns-clause-rows
returns-clause-rows c = λ s i input rows setting lawful.
    none_implied c.points_stand_by_counts.ensures (record { decide = c.tests_decide.ensures.edge; listed = c.listed_edges_are_all.ensures.all })
    s (after_rows s i (start s i input) rows) (edges_are_netzers.rows s i input rows) (c.points_are_in_order.ensures.rows s i input rows setting lawful)
    c.no_edge_follows.ensures
