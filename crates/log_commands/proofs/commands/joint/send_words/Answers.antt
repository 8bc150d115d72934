use Rattle.log_commands.proofs.Common.{ℕ, ◌+◌, ◌∷◌, List, ap, sym, ◌∙◌, subst, arith, known_from, memory_text, Sends, Always}
use Rattle.log_commands.proofs.Answering.{passed-on}
use Rattle.log_commands.proofs.Prints.{so_far-last}
use Rattle.log_commands.proofs.Joins.{Lists, lists-none, lists-more, lists-stopped}
use Rattle.log_commands.proofs.commands.joint.send_words.Goals as goal

pub words-init : goal.words-init
words-init g c =
    subst (λ (t : List ℕ). Lists c.args.joint.now.memory 0 t (g.O.Sink.stream c.args.out.now).text (g.O.Sink.stream c.args.out.now).text (g.O.Sink.stream c.args.out.now).faults (g.O.Sink.stream c.args.out.now).faults) (sym c.new-text.ensures)
    (lists-none c.args.joint.now.memory (g.O.Sink.stream c.args.out.now).text (g.O.Sink.stream c.args.out.now).faults)

pub returns-in-None : goal.returns-in-None
returns-in-None g c = record {
  sent =
      so_far-last (memory_text c.args.joint.now.memory) c.words.text (memory_text (known_from c.words.from c.args.joint.now.memory))
      (g.O.Sink.stream c.args.out.now).text (g.O.Sink.stream c.words.out).text (g.O.Sink.stream c.send.new.sink).text (g.O.Sink.stream c.args.out.now).faults (g.O.Sink.stream c.words.out).faults (g.O.Sink.stream c.send.new.sink).faults c.send.result
      c.words.invariant (ap memory_text c.in-None.ensures) c.send.ensures.sends.sent;
  later = omega (arith, c.words.invariant.later, c.send.ensures.sends.later);
}

pub words-preserved : goal.words-preserved
words-preserved g c =
    lists-more c.args.joint.now.memory c.words.from (c.from-from.result + 4) (c.in-Some.addr, c.in-Some.word) c.words.text c.gather_word.new.text
    (g.O.Sink.stream c.args.out.now).text (g.O.Sink.stream c.words.out).text (g.O.Sink.stream c.gather_word.new.out).text (g.O.Sink.stream c.args.out.now).faults (g.O.Sink.stream c.words.out).faults (g.O.Sink.stream c.gather_word.new.out).faults
    (c.in-Some.ensures ∙ ap (λ a. (c.in-Some.addr, c.in-Some.word) ∷ known_from (a + 4) c.args.joint.now.memory) (sym c.from-from.ensures)) c.words.invariant c.in_ok-gather_word-in-Some.ensures.sent c.gather_word.ensures.later

pub returns-in_err-gather_word-in-Some : goal.returns-in_err-gather_word-in-Some
returns-in_err-gather_word-in-Some g c =
    passed-on (Sends (memory_text _) Always _ _) _ c.from_residual.result c.from_residual.ensures.1
    (record {
      sent = lists-stopped _ c.words.from (c.in-Some.addr + 4) (c.in-Some.addr, c.in-Some.word) c.words.text _ _ _ _ _ _ _ c.in-Some.ensures c.words.invariant c.in_err-gather_word-in-Some.ensures.sent;
      later = omega (arith, c.words.invariant.later, c.gather_word.ensures.later);
    })
