use Rattle.race_laws.specs.Laws.{HasEdgesByCount}
use Rattle.race_laws.proofs.Turns.{Laws}
use Rattle.race_laws.proofs.Whole.{of_lists, edges_by_count}
use Rattle.race_laws.proofs.edges_are_by_count.Goals as goal

pub returns : goal.returns
returns c =
    let laws : Laws = record { moves = c.each_turn_moves_on.ensures; fits = c.each_turn_fits.ensures; others = c.others_stay_fit.ensures; guarded = c.guarded_asks_fit.ensures; edges = record { decide = c.tests_decide.ensures.edge; listed = c.listed_edges_are_all.ensures.all } } in
    let rows = edges_by_count laws c.places_stand_for_counts.ensures.edge in
    record { turns = of_lists HasEdgesByCount c.turns_are_lawful.ensures rows; rows = rows }
