use Rattle.log_commands.proofs.Common.{List, ℕ, subst, Sent}
use Rattle.rv_text.specs.Rows.{row_text}
use Rattle.log_commands.proofs.Prints.{gathered-short}
use Rattle.log_commands.proofs.Rows.{no-memory, row-some, short-line}
use Rattle.log_commands.proofs.replay_lines.gather_row.Goals as goal

pub returns-in-Err-clause-gathers : goal.returns-in-Err-clause-gathers
returns-in-Err-clause-gathers g c = record {
  sent =
      gathered-short _ _ _ _ c.args.text.now (row_text c.args.row.now) c.write_row.new.text c.send_short.result
      (rw c.in-Err.ensures.err at c.send_short.ensures.sent);
  later = c.send_short.ensures.later;
}

pub returns-in-Err-clause-memory : goal.returns-in-Err-clause-memory
returns-in-Err-clause-memory g c =
    let old = g.O.Sink.stream c.args.out.now in
    let next = g.O.Sink.stream c.send_short.new.out in
    short-line old next c.args.text.now (row_text c.args.row.now) c.send_short.result (row-some c.args.row.now)
    (subst (λ (t : List ℕ). Sent old.text next.text old.faults next.faults t (λ x. ⊥) c.send_short.result) c.in-Err.ensures.err c.send_short.ensures.sent)

pub returns-in-Ok-clause-memory : goal.returns-in-Ok-clause-memory
returns-in-Ok-clause-memory g c = no-memory _ (g.O.Sink.stream c.args.out.now) (g.O.Sink.stream c.send_block.new.out) c.send_block.result c.send_block.ensures.write
