use Rattle.run_model.proofs.Common.{refl, sym, subst, ap, ◌≡◌, ◌∙◌, ℕ, aligned, stored_word, HoldsMap, updated, with_memory, others_lose, IsMachine}
use Rattle.bus_memory.specs.Contents.{Contents}
use Rattle.run_model.proofs.machine.Machine.store.Goals as goal

pub returns-clause-answer : goal.returns-clause-answer
returns-clause-answer c = λ input. record {
  reply = λ m h. refl;
  stands = λ m h.
      let same : c.self.inside.memory ≡ c.args.self.now.memory = cc in
      let word : c.word-word.result ≡ m.memory (aligned c.args.addr) = c.word-word.ensures.map m.memory (subst (λ (k : Contents). HoldsMap k.words m.memory) (sym same) h.memory) in
      let stored : c.stored_word.result ≡ stored_word c.args.addr c.args.width c.args.value (m.memory (aligned c.args.addr)) =
      c.stored_word.ensures ∙ ap (λ (w : ℕ). stored_word c.args.addr c.args.width c.args.value w) word in
      subst (λ (v : ℕ). IsMachine input c.write.new.self (with_memory (updated (aligned c.args.addr) v m.memory) (others_lose c.args.hart (aligned c.args.addr) m.reserved) m)) stored (c.write.ensures.stands input m h);
}
