use Rattle.log_commands.proofs.Common.{◌≡◌, arith, Ok, Appends, SendsReplay, outcome_of, end_of_interval, rest_text, rows_text}
use Rattle.log_commands.proofs.Answering.{passed-on}
use Rattle.log_commands.proofs.Prints.{sent-both, sent-stopped}
use Rattle.log_commands.proofs.Rows.{sent-last, cut-longer, cut-last}
use Rattle.log_commands.proofs.replay_lines.send_rest.Goals as goal

pub returns-in_err-ending : goal.returns-in_err-ending
returns-in_err-ending g c =
    let old = g.O.Sink.stream c.args.out.now in
    let mid = g.O.Sink.stream c.send_rows.new.out in
    passed-on (SendsReplay (rest_text c.args.hart c.args.interval c.args.mark.now _) _ c.send_rows.new.replayer old mid) _ c.from_residual.result c.from_residual.ensures.1
    (record {
      sends = record {
        sent = sent-stopped old.text mid.text old.faults mid.faults (rows_text _) _ _ c.in_err-ending.ensures.sends.sent;
        later = c.send_rows.ensures.sends.later;
      };
      memory = cut-longer (rows_text _) _ c.send_rows.new.replayer old mid _ c.in_err-ending.ensures.memory;
    })

pub returns-in_err-send_end : goal.returns-in_err-send_end
returns-in_err-send_end g c =
    let old = g.O.Sink.stream c.args.out.now in
    let mid = g.O.Sink.stream c.send_rows.new.out in
    let new = g.O.Sink.stream c.send_end.new.out in
    let rows = c.in_ok-ending.ensures.sends.sent in
    passed-on (SendsReplay (rest_text c.args.hart c.args.interval c.args.mark.now _) _ c.send_rows.new.replayer old new) _ c.from_residual-in_err-send_end.result c.from_residual-in_err-send_end.ensures.1
    (record {
      sends = record {
        sent = sent-last old.text mid.text new.text old.faults mid.faults new.faults
            (rows_text _) c.args.hart c.args.interval c.args.mark.now _ (outcome_of c.in_ok-ending.ending) _ rows.0 rows.1 c.send_rows.ensures.sends.later c.in_err-send_end.ensures.sends.sent;
        later = omega (arith, c.send_rows.ensures.sends.later, c.send_end.ensures.sends.later);
      };
      memory = cut-last (rows_text _) c.args.hart c.args.interval c.args.mark.now _ (outcome_of c.in_ok-ending.ending) c.send_rows.new.replayer old mid new _ rows.0 rows.1 c.in_err-send_end.ensures.memory;
    })

pub returns : goal.returns
returns g c =
    let r = c.args.replayer.now.left in
    let mid = g.O.Sink.stream c.send_rows.new.out in
    let new = g.O.Sink.stream c.send_end.new.out in
    let rows = c.in_ok-ending.ensures.sends.sent in
    let last : Appends mid.text new.text (end_of_interval c.args.hart c.args.interval c.args.mark.now r.outcome) =
    rw rows.1 at c.in_ok-send_end.ensures.sends.sent.0 in
    record {
      sends = record {
        sent = sent-both {A = Unit {0}} _ _ new.text _ _ new.faults
            (rows_text r.rows) (end_of_interval c.args.hart c.args.interval c.args.mark.now r.outcome) (λ ending. outcome_of ending ≡ r.outcome) tt (Ok c.in_ok-ending.ending) rows.0 c.send_rows.ensures.sends.later (last, rows.1);
        later = omega (arith, c.send_rows.ensures.sends.later, c.send_end.ensures.sends.later);
      };
      memory = tt;
    }
