use Rattle.log_commands.proofs.Common.{◌≡◌, arith, inr, SendsReplay, outcome_of, rest_text, text_from, begin_text}
use Rattle.log_commands.proofs.Answering.{passed-on}
use Rattle.log_commands.proofs.Prints.{sent-both, sent-stopped, short-longer}
use Rattle.log_commands.proofs.Rows.{cut-result}
use Rattle.log_commands.proofs.replay_lines.send_interval.Goals as goal

pub returns-in_err-send_begin : goal.returns-in_err-send_begin
returns-in_err-send_begin g c =
    let begin = begin_text c.args.hart c.args.interval _ in
    let rest = rest_text c.args.hart c.args.interval c.args.mark.now _ in
    passed-on (SendsReplay (text_from c.args.hart c.args.interval _ c.args.mark.now _) _ _ _ _) _ c.from_residual.result c.from_residual.ensures.1
    (record {
      sends = record {
        sent = sent-stopped _ _ _ _ begin rest _ (rw c.state.ensures at c.in_err-send_begin.ensures.sends.sent);
        later = c.send_begin.ensures.sends.later;
      };
      memory = λ m. inr (short-longer _ _ begin rest (rw c.state.ensures at c.in_err-send_begin.ensures.memory m));
    })

pub returns : goal.returns
returns g c =
    let old = g.O.Sink.stream c.args.out.now in
    let mid = g.O.Sink.stream c.send_begin.new.out in
    let new = g.O.Sink.stream c.send_rest.new.out in
    let begin = begin_text c.args.hart c.args.interval _ in
    let rest = rest_text c.args.hart c.args.interval c.args.mark.now _ in
    let first = (rw c.state.ensures at c.in_ok-send_begin.ensures.sends.sent.0) in
    record {
      sends = record {
        sent = sent-both {A = Unit {0}} old.text mid.text new.text old.faults mid.faults new.faults begin rest (λ ending. outcome_of ending ≡ _) tt c.send_rest.result first c.send_begin.ensures.sends.later c.send_rest.ensures.sends.sent;
        later = omega (arith, c.send_begin.ensures.sends.later, c.send_rest.ensures.sends.later);
      };
      memory = cut-result begin rest c.send_rest.new.replayer old mid new c.send_rest.result first c.send_rest.ensures.memory;
    }
