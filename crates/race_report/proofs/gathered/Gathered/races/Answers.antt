use Rattle.race_report.proofs.Common.{◌∙◌, ◌++◌, ap, sym, List, length, Race, races_by_place}
use Rattle.race_report.proofs.Orders.{first_next}
use Rattle.race_report.proofs.gathered.Gathered.races.Goals as goal

pub loop-hart-preserved : goal.loop-hart-preserved
loop-hart-preserved c = λ harts run g.
    c.in_ok-push_hart.ensures harts run g ∙ ap (λ (rs : List Race). rs ++ races_by_place harts run c.loop-hart.hart (length run)) (c.loop-hart.invariant harts run g) ∙ sym (first_next harts run c.loop-hart.hart)
