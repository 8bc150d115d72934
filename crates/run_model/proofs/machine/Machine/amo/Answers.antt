use Rattle.run_model.proofs.Common.{sym, subst, ap, ◌≡◌, ◌∙◌, ℕ, amo_result, HoldsMap, updated, Machine, with_memory, others_lose, IsMachine}
use Rattle.rv_meaning.specs.declared.asks.Reply.TheVariants.{Word}
use Rattle.bus_memory.specs.Contents.{Contents}
use Rattle.run_model.proofs.machine.Machine.amo.Goals as goal

pub returns-clause-answer : goal.returns-clause-answer
returns-clause-answer c = λ input.
    let same : c.self.inside.memory ≡ c.args.self.now.memory = cc in
    let word = λ (m : Machine) (h : IsMachine input c.args.self.now m). c.word-word.ensures.map m.memory (subst (λ (k : Contents). HoldsMap k.words m.memory) (sym same) h.memory) in
    record {
      reply = λ m h. ap Word (word m h);
      stands = λ m h. subst (λ (v : ℕ). IsMachine input c.write.new.self (with_memory (updated c.args.addr v m.memory) (others_lose c.args.hart c.args.addr m.reserved) m))
          (c.result.ensures ∙ ap (λ (w : ℕ). amo_result c.args.op w c.args.value) (word m h)) (c.write.ensures.stands input m h);
    }
