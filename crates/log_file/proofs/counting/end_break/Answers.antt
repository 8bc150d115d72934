use Rattle.log_file.proofs.Common.{Some, ap, sym, ◌∙◌, length, OrderBreak}
use Rattle.log_file.proofs.Walks.{ends_unfinished, ends_well, ends_late}
use Rattle.log_file.proofs.counting.end_break.Goals as goal

pub returns-then-any_unfinished : goal.returns-then-any_unfinished
returns-then-any_unfinished c = λ rs fit parts. ap (λ (b : OrderBreak). Some b) c.of.ensures ∙ ends_unfinished c.args.all c.args.harts.now rs _ (sym c.any_unfinished.ensures ∙ c.if-any_unfinished.true) (ap length parts)

pub returns-in-None : goal.returns-in-None
returns-in-None c = λ rs fit parts. ends_well c.args.all c.args.harts.now rs (sym c.any_unfinished.ensures ∙ c.if-any_unfinished.false) (sym c.in-None.is ∙ c.late_edge.ensures rs fit parts)

pub returns-in-Some : goal.returns-in-Some
returns-in-Some c = λ rs fit parts. ap (λ (b : OrderBreak). Some b) c.of-in-Some.ensures ∙ ends_late c.args.all c.args.harts.now rs c.in-Some.at (sym c.any_unfinished.ensures ∙ c.if-any_unfinished.false) (sym c.in-Some.is ∙ c.late_edge.ensures rs fit parts)
