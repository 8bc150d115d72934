use Rattle.run_model.proofs.Common.{sym, subst, Plan, answer_call, IsAnswer}
use Rattle.run_model.proofs.machine.Machine.answer_call.Goals as goal

pub returns-in-Send-clause-answer : goal.returns-in-Send-clause-answer
returns-in-Send-clause-answer c =
    subst (λ (p : Plan). IsAnswer c.args.input.now c.args.self.now c.send.new.self c.send.result (λ m. answer_call p c.args.hart m)) (sym c.in-Send.is) (c.send.ensures.answer c.args.input.now)
