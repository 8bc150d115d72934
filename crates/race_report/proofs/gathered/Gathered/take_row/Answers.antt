use Rattle.race_report.proofs.Common.{◌∙◌, ◌<◌, ℕ, subst, sym, arith, touch_of}
use Rattle.race_report.proofs.Tracking.{then_ok}
use Rattle.race_report.proofs.Counting.{state_over, state_more}
use Rattle.race_report.proofs.gathered.Gathered.take_row.Goals as goal

pub returns-then-count-most : goal.returns-then-count-most
returns-then-count-most c = λ harts run before low asked s.
    state_over harts c.args.most c.args.hart c.args.row.now (touch_of before c.args.row.now) run c.args.self.now (subst (λ (k : ℕ). c.args.most < k) c.count.ensures c.if-count-most.true) s

pub returns-in-Some : goal.returns-in-Some
returns-in-Some c = then_ok c.take_point.result _ _ (λ more harts run before low asked s.
    state_more harts c.args.most c.args.hart c.args.row.now c.in-Some.touch (touch_of before c.args.row.now) run c.take_point.new.self (sym c.in-Some.is ∙ c.touch_of.ensures.value before asked)
    (more harts run low (s.gathered (let low_enough = c.if-count-most.false in let same = c.count.ensures in omega (arith, low_enough, same))))) c.take_point.ensures
