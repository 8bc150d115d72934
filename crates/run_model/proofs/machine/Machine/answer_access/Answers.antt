use Rattle.run_model.proofs.Common.{sym, subst, Want, answer_access, IsAnswer}
use Rattle.run_model.proofs.machine.Machine.answer_access.Goals as goal

pub returns-in-LoadReserved-clause-answer : goal.returns-in-LoadReserved-clause-answer
returns-in-LoadReserved-clause-answer c = λ input.
    subst (λ (w : Want). IsAnswer input c.args.self.now c.load_reserved.new.self c.load_reserved.result (λ m. answer_access c.args.settings.now m c.args.hart (record { state = c.args.ask.now.state; want = w }))) (sym c.in-LoadReserved.is) (c.load_reserved.ensures.answer input)

pub returns-in-Store-clause-answer : goal.returns-in-Store-clause-answer
returns-in-Store-clause-answer c = λ input.
    subst (λ (w : Want). IsAnswer input c.args.self.now c.store.new.self c.store.result (λ m. answer_access c.args.settings.now m c.args.hart (record { state = c.args.ask.now.state; want = w }))) (sym c.in-Store.is) (c.store.ensures.answer input)

pub returns-in-StoreConditional-clause-answer : goal.returns-in-StoreConditional-clause-answer
returns-in-StoreConditional-clause-answer c = λ input.
    subst (λ (w : Want). IsAnswer input c.args.self.now c.store_conditional.new.self c.store_conditional.result (λ m. answer_access c.args.settings.now m c.args.hart (record { state = c.args.ask.now.state; want = w }))) (sym c.in-StoreConditional.is) (c.store_conditional.ensures.answer input)

pub returns-in-Amo-clause-answer : goal.returns-in-Amo-clause-answer
returns-in-Amo-clause-answer c = λ input.
    subst (λ (w : Want). IsAnswer input c.args.self.now c.amo.new.self c.amo.result (λ m. answer_access c.args.settings.now m c.args.hart (record { state = c.args.ask.now.state; want = w }))) (sym c.in-Amo.is) (c.amo.ensures.answer input)
