use Rattle.race_laws.specs.Laws.{KeepsLateEdges}
use Rattle.race_laws.proofs.Turns.{Laws}
use Rattle.race_laws.proofs.Whole.{of_lists, late_kept}
use Rattle.race_laws.proofs.late_edges_are_kept.Goals as goal

pub returns : goal.returns
returns c =
    let laws : Laws = record { moves = c.each_turn_moves_on.ensures; fits = c.each_turn_fits.ensures; others = c.others_stay_fit.ensures; guarded = c.guarded_asks_fit.ensures; edges = record { decide = c.tests_decide.ensures.edge; listed = c.listed_edges_are_all.ensures.all } } in
    record { turns = of_lists KeepsLateEdges c.turns_are_lawful.ensures (late_kept laws); rows = late_kept laws }
