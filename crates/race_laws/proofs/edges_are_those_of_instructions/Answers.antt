use Rattle.race_laws.proofs.Common.{start, run_of, after_rows}
use Rattle.race_laws.proofs.Streams.{edges_are_netzers}
use Rattle.race_laws.proofs.Counts.{of_instructions}
use Rattle.race_laws.proofs.edges_are_those_of_instructions.Goals as goal

pub returns-clause-turns : goal.returns-clause-turns
returns-clause-turns c = λ s i input b setting legal.
    of_instructions c.points_stand_by_counts.ensures (record { decide = c.tests_decide.ensures.edge; listed = c.listed_edges_are_all.ensures.all })
    s (run_of s i input b) (edges_are_netzers.turns s i input b) (c.points_are_in_order.ensures.turns s i input b setting legal)
    c.places_stand_for_counts.ensures.edge

pub returns-clause-rows : goal.returns-clause-rows
returns-clause-rows c = λ s i input rows setting lawful.
    of_instructions c.points_stand_by_counts.ensures (record { decide = c.tests_decide.ensures.edge; listed = c.listed_edges_are_all.ensures.all })
    s (after_rows s i (start s i input) rows) (edges_are_netzers.rows s i input rows) (c.points_are_in_order.ensures.rows s i input rows setting lawful)
    c.places_stand_for_counts.ensures.edge
