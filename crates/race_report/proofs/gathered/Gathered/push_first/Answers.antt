use Rattle.race_report.proofs.Common.{◌≡◌, ◌∙◌, ◌++◌, ℕ, ap, sym, arith, List, Race, races_with, races_by_second, meetings_of}
use Rattle.race_report.proofs.Orders.{second_next, then_more}
use Rattle.race_report.proofs.gathered.Gathered.push_first.Goals as goal

pub loop-hart-preserved : goal.loop-hart-preserved
loop-hart-preserved c = λ harts run g.
    then_more c.args.out.now.items c.loop-hart.out.items c.push_with.new.out.items (races_by_second run c.args.first c.loop-hart.hart) (races_with run c.args.first c.loop-hart.hart (meetings_of run c.args.first)) (c.loop-hart.invariant harts run g) (c.in_ok-push_with.ensures harts run g)
    ∙ ap (λ (rs : List Race). c.args.out.now.items ++ rs) (sym (second_next run c.args.first c.loop-hart.hart))

pub returns : goal.returns
returns c = λ harts run g.
    let same : c.loop-hart.hart ≡ harts = (let own = g.harts_are in omega (arith, own, c.loop-hart-test.false, c.loop-hart.auto.hart-end)) in
    c.loop-hart.invariant harts run g ∙ ap (λ (k : ℕ). c.args.out.now.items ++ races_by_second run c.args.first k) same
