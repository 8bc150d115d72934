use Rattle.std.proofs.Common.{Bool, subst, Ok}
use Rattle.joint_replay.specs.Runs.{Advances}
use Rattle.joint_replay.proofs.Telling.{stands_first, stands_more, stands_stopped}
use Rattle.joint_replay.proofs.joint.Joint.run_all.Goals as goal

pub steps-init : goal.steps-init
steps-init c = stands_first c.args.self.now c.args.out.now

pub returns-in-Err : goal.returns-in-Err
returns-in-Err c = stands_stopped c.runs_end.ensures c.args.self.now c.steps.self c.advance.new.self c.args.out.now c.steps.out c.advance.new.out c.in-Err.error c.steps.invariant c.in-Err.ensures

pub steps-preserved : goal.steps-preserved
steps-preserved c =
    stands_more c.runs_go_on.ensures c.args.self.now c.steps.self c.advance.new.self c.args.out.now c.steps.out c.advance.new.out c.steps.invariant
    (subst (λ (b : Bool). Advances c.steps.self (Ok b) c.advance.new.self c.steps.out c.advance.new.out) c.if-not-more.false c.in-Ok.ensures)
