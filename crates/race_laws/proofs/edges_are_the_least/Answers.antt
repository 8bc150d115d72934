use Rattle.race_laws.proofs.Common.{start, run_of, after_rows}
use Rattle.race_laws.proofs.Streams.{edges_are_netzers}
use Rattle.race_laws.proofs.Counts.{least_set}
use Rattle.race_laws.proofs.edges_are_the_least.Goals as goal

pub returns-clause-turns : goal.returns-clause-turns
returns-clause-turns g c = λ s i input b setting legal.
    least_set c.points_stand_by_counts.ensures (record { decide = c.tests_decide.ensures.edge; listed = c.listed_edges_are_all.ensures.all })
    s (run_of s i input b) (edges_are_netzers.turns s i input b) (c.points_are_in_order.ensures.turns s i input b setting legal)
    c.edges_order_conflicts.ensures.all g.P.InstructionPairs.Name g.P.InstructionPairs.has (λ of. c.edges_are_needed.ensures (run_of s i input b).points (((run_of s i input b).points, of)))

pub returns-clause-rows : goal.returns-clause-rows
returns-clause-rows g c = λ s i input rows setting lawful.
    least_set c.points_stand_by_counts.ensures (record { decide = c.tests_decide.ensures.edge; listed = c.listed_edges_are_all.ensures.all })
    s (after_rows s i (start s i input) rows) (edges_are_netzers.rows s i input rows) (c.points_are_in_order.ensures.rows s i input rows setting lawful)
    c.edges_order_conflicts.ensures.all g.P.InstructionPairs.Name g.P.InstructionPairs.has (λ of. c.edges_are_needed.ensures (after_rows s i (start s i input) rows).points (((after_rows s i (start s i input) rows).points, of)))
