use Rattle.race_report.proofs.Common.{◌∙◌, ◌++◌, ap, sym, [], cond, Bool, append-nil, races_by_second}
use Rattle.race_report.proofs.Orders.{no_at, yes_at}
use Rattle.race_report.proofs.Tracking.{then_ok}
use Rattle.race_report.proofs.gathered.Gathered.push_if.Goals as goal

pub returns-in-None : goal.returns-in-None
returns-in-None c = λ harts run g.
    sym (append-nil c.args.out.now.items) ∙ ap (λ (b : Bool). c.args.out.now.items ++ cond b (races_by_second run c.args.first harts) []) (sym (no_at run c.args.first c.args.hart (sym c.in-None.is ∙ c.row_of.ensures harts run g)))

pub returns-in-Some : goal.returns-in-Some
returns-in-Some c = then_ok c.push_first.result _ _ (λ more harts run g.
    more harts run g ∙ ap (λ (b : Bool). c.args.out.now.items ++ cond b (races_by_second run c.args.first harts) []) (sym (yes_at run c.args.first c.args.hart _ (sym c.in-Some.is ∙ c.row_of.ensures harts run g)))) c.push_first.ensures
