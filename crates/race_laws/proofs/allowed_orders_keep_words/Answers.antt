use Rattle.race_laws.proofs.Common.{start, after_rows, KeepsWords}
use Rattle.race_laws.proofs.Turns.{Laws}
use Rattle.race_laws.proofs.Whole.{of_lists, late_kept}
use Rattle.race_laws.proofs.Orders.{MergeLaws, words_stay}
use Rattle.race_laws.proofs.allowed_orders_keep_words.Goals as goal

pub returns-clause-rows : goal.returns-clause-rows
returns-clause-rows c =
    let laws : Laws = record { moves = c.each_turn_moves_on.ensures; fits = c.each_turn_fits.ensures; others = c.others_stay_fit.ensures; guarded = c.guarded_asks_fit.ensures; edges = record { decide = c.tests_decide.ensures.edge; listed = c.listed_edges_are_all.ensures.all } } in
    let merges : MergeLaws = record { words = c.late_edges_suffice.ensures.words; some = c.some_hart_goes_on.ensures.some; next = c.some_hart_goes_on.ensures.next } in
    λ s i input rows setting lawful. words_stay laws.edges merges s (after_rows s i (start s i input) rows) (late_kept laws s i input rows setting lawful)

pub returns-clause-turns : goal.returns-clause-turns
returns-clause-turns c = of_lists KeepsWords c.turns_are_lawful.ensures (returns-clause-rows c)
