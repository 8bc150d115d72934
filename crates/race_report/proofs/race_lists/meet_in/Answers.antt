use Rattle.race_report.proofs.Common.{◌≡◌, ◌∙◌, ℕ, ◌-◌, sym, ap, arith, slice_set, Some, meeting, last_meets}
use Rattle.race_report.proofs.Lists.{meet_none, meet_some, last_some}
use Rattle.race_report.proofs.race_lists.meet_in.Goals as goal

pub returns-in_ok-push-in-None-clause-met : goal.returns-in_ok-push-in-None-clause-met
returns-in_ok-push-in-None-clause-met c = c.in_ok-push-in-None.ensures.items ∙ meet_none c.args.second c.args.word c.args.list.now.items (ap (last_meets c.args.second) (sym c.deref.ensures.value) ∙ sym c.in-None.ensures)

pub returns-in-Some-clause-met : goal.returns-in-Some-clause-met
returns-in-Some-clause-met c =
    let last : last_meets c.args.second c.args.list.now.items ≡ Some c.in-Some.found = ap (last_meets c.args.second) (sym c.deref.ensures.value) ∙ sym c.in-Some.ensures in
    let long = last_some c.args.second c.args.list.now.items c.in-Some.found last in
    ap (λ (w : ℕ). slice_set c.args.list.now.items (c.len-last.result - 1) (meeting c.args.second w)) c.min.ensures
    ∙ meet_some c.args.second c.args.word c.in-Some.found (c.len-last.result - 1) c.args.list.now.items (omega (arith, long, c.len-last.ensures, c.args.list.now.ok)) last
