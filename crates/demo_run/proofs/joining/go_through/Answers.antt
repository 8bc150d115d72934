use Rattle.demo_run.proofs.Common.{Bool, subst, Ok, Advances}
use Rattle.demo_run.proofs.Joins.{walks-more}
use Rattle.demo_run.proofs.joining.go_through.Goals as goal

pub steps-preserved : goal.steps-preserved
steps-preserved c =
    walks-more c.runs_go_on.ensures c.args.joint.now c.steps.joint c.advance.new.self c.steps.line c.advance.new.out
    (subst (λ (b : Bool). Advances c.steps.joint (Ok b) c.advance.new.self c.steps.line c.advance.new.out) c.in-Ok-true.field-0-test c.in-Ok-true.ensures) c.steps.invariant
