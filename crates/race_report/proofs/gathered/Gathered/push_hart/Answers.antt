use Rattle.race_report.proofs.Common.{◌∙◌, ◌++◌, ap, sym, List, [], cond, Race, races_by_second, races_by_place, is_at}
use Rattle.race_report.proofs.Orders.{place_next, then_more}
use Rattle.race_report.proofs.gathered.Gathered.push_hart.Goals as goal

pub loop-first-preserved : goal.loop-first-preserved
loop-first-preserved c = λ harts run g.
    then_more c.args.out.now.items c.loop-first.out.items c.push_if.new.out.items (races_by_place harts run c.args.hart c.loop-first.first) (cond (is_at run c.loop-first.first c.args.hart) (races_by_second run c.loop-first.first harts) []) (c.loop-first.invariant harts run g) (c.in_ok-push_if.ensures harts run g)
    ∙ ap (λ (rs : List Race). c.args.out.now.items ++ rs) (sym (place_next harts run c.args.hart c.loop-first.first))
