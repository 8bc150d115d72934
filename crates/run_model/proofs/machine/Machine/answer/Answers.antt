use Rattle.run_model.proofs.Common.{sym, subst, Option, Plan, answer, IsAnswer}
use Rattle.run_model.proofs.machine.Machine.answer.Goals as goal

pub returns-in-None-clause-answer : goal.returns-in-None-clause-answer
returns-in-None-clause-answer c =
    subst (λ (o : Option Plan). IsAnswer c.args.input.now c.args.self.now c.answer_access.new.self c.answer_access.result (λ m. answer c.args.settings.now o m c.args.hart c.args.ask.now)) (sym c.in-None.is) (c.answer_access.ensures.answer c.args.input.now)
