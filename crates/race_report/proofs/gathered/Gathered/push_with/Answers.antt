use Rattle.race_report.proofs.Common.{◌∙◌, ◌++◌, append_assoc, ◌+◌, ap, sym, arith, List, drop, append-nil, Meeting, Race, races_with, meetings_of, same_Some}
use Rattle.race_report.proofs.Orders.{with_more, with_done}
use Rattle.race_report.proofs.gathered.Gathered.push_with.Goals as goal

pub loop-k-preserved : goal.loop-k-preserved
loop-k-preserved c = λ harts run g.
    let xs = c.with-meetings.result.now in
    let rest = races_with run c.args.first c.args.hart (drop (c.loop-k.k + 1) xs) in
    ap (λ (rs : List Race). rs ++ rest) (c.in_ok-push_race.ensures ∙ ap (λ (rs : List Race). c.loop-k.out.items ++ rs) (sym (c.race_with.ensures harts run g)))
    ∙ append_assoc c.loop-k.out.items _ rest
    ∙ ap (λ (rs : List Race). c.loop-k.out.items ++ rs) (with_more run c.args.first c.args.hart c.loop-k.k xs (record { second = 0; word = 0 }) c.loop-k-test.true)
    ∙ c.loop-k.invariant harts run g

pub returns : goal.returns
returns c = λ harts run g.
    let xs = c.with-meetings.result.now in
    sym (append-nil c.loop-k.out.items) ∙ ap (λ (rs : List Race). c.loop-k.out.items ++ rs) (sym (with_done run c.args.first c.args.hart c.loop-k.k xs c.loop-k-test.false))
    ∙ c.loop-k.invariant harts run g
    ∙ ap (λ (ys : List Meeting). c.args.out.now.items ++ races_with run c.args.first c.args.hart ys) (same_Some xs (meetings_of run c.args.first) (sym c.with-meetings.ensures ∙ g.lists c.args.first (let size = g.size in omega (arith, c.requires, size))))
