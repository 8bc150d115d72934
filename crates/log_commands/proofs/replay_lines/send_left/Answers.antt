use Rattle.log_commands.proofs.Common.{IfErr, IsCutShort, Replaying, ◌≡◌, ℕ, ap, inr, List, sym, subst, arith, Result, Ok, Stepped, rows_text, outcome_of, SendsReplay, Sent, ReplayEnd, Refusal, Some, None}
use Rattle.log_commands.proofs.Answering.{passed-on}
use Rattle.log_commands.proofs.Rows.{RowsSoFar, stands-none, stands-more, stands-stopped, stands-sent, stands-short, stands-done, stands-refused, stands-lacking, ends-without}
use Rattle.log_commands.proofs.Prints.{not-memory}
use Rattle.log_commands.proofs.replay_lines.send_left.Goals as goal

pub rows-preserved : goal.rows-preserved
rows-preserved g c =
    let step : Stepped c.rows.replayer (Ok (Some c.advance.new.row)) c.advance.new.self = rw c.in-Ok-true.field-0-test at c.in-Ok-true.ensures in
    stands-more c.args.replayer.now.left c.rows.replayer.left c.advance.new.self.left c.advance.new.row c.rows.text c.gather_row.new.text _ _ _ _ _ _
    step.0 c.rows.invariant c.in_ok-gather_row-in-Ok-true.ensures.gathers.sent c.gather_row.ensures.gathers.later

pub returns-in_err-gather_row-in-Ok-true : goal.returns-in_err-gather_row-in-Ok-true
returns-in_err-gather_row-in-Ok-true g c =
    let there = g.O.Sink.stream c.gather_row.new.out in
    let step : Stepped c.rows.replayer (Ok (Some c.advance.new.row)) c.advance.new.self = rw c.in-Ok-true.field-0-test at c.in-Ok-true.ensures in
    passed-on (SendsReplay (rows_text _) _ c.advance.new.self _ there) _ c.from_residual.result c.from_residual.ensures.1
    (record {
      sends = record {
        sent = stands-stopped _ c.rows.replayer.left c.advance.new.self.left c.advance.new.row c.rows.text _ _ there.text _ _ there.faults _ step.0 c.rows.invariant c.in_err-gather_row-in-Ok-true.ensures.gathers.sent;
        later = omega (arith, c.rows.invariant.sent.later, c.gather_row.ensures.gathers.later);
      };
      memory = λ m. inr (stands-lacking _ c.rows.replayer.left c.advance.new.self.left c.advance.new.row c.rows.text _ _ there step.0 c.rows.invariant (c.in_err-gather_row-in-Ok-true.ensures.memory m));
    })

pub returns-in-Ok-false : goal.returns-in-Ok-false
returns-in-Ok-false g c =
    let step : Stepped c.rows.replayer (Ok None) c.advance.new.self = rw c.in-Ok-false.field-0-test at c.in-Ok-false.ensures in
    record {
      sends = record {
        sent = stands-done _ c.rows.replayer.left _ _ _ _ step.0
            (stands-sent _ c.rows.replayer.left c.rows.text _ _ _ _ _ _ c.rows.invariant c.in_ok-send-in-Ok-false.ensures.sends.sent.0 c.send.ensures.sends.later);
        later = omega (arith, c.rows.invariant.sent.later, c.send.ensures.sends.later);
      };
      memory = tt;
    }

pub returns-in_err-send-in-Ok-false : goal.returns-in_err-send-in-Ok-false
returns-in_err-send-in-Ok-false g c =
    passed-on (SendsReplay (rows_text _) _ c.advance.new.self _ _) _ c.from_residual-in_err-send-in-Ok-false.result c.from_residual-in_err-send-in-Ok-false.ensures.1
    (record {
      sends = record {
        sent = stands-short _ c.rows.replayer.left c.rows.text _ _ _ _ _ _ _ c.rows.invariant c.in_err-send-in-Ok-false.ensures.sends.sent;
        later = omega (arith, c.rows.invariant.sent.later, c.send.ensures.sends.later);
      };
      memory = λ m. not-memory _ c.in_err-send-in-Ok-false.ensures.write m;
    })

pub returns-in-Err : goal.returns-in-Err
returns-in-Err g c =
    let left = c.args.replayer.now.left in
    let old = g.O.Sink.stream c.args.out.now in
    let there = g.O.Sink.stream c.send-in-Err.new.sink in
    record {
      sends = record {
        sent = subst (λ (r : Result ReplayEnd Refusal). Sent old.text there.text old.faults there.faults (rows_text left.rows) (λ ending. outcome_of ending ≡ left.outcome) r) (sym c.ending_of.ensures)
            (stands-refused _ c.rows.replayer.left old.text there.text old.faults there.faults c.in-Err.error c.in-Err.ensures.0
            (stands-sent _ c.rows.replayer.left c.rows.text old.text _ there.text old.faults _ there.faults c.rows.invariant c.in_ok-send-in-Err.ensures.sends.sent.0 c.send-in-Err.ensures.sends.later));
        later = omega (arith, c.rows.invariant.sent.later, c.send-in-Err.ensures.sends.later);
      };
      memory = subst (λ (r : Result ReplayEnd Refusal). IfErr r (IsCutShort (rows_text left.rows) c.advance.new.self old there)) (sym c.ending_of.ensures)
          (ends-without (rows_text _) old there c.advance.new.self c.in-Err.error (ap (λ (r : Replaying). r.left) c.in-Err.ensures.1));
    }

pub returns-in_err-send-in-Err : goal.returns-in_err-send-in-Err
returns-in_err-send-in-Err g c =
    passed-on (SendsReplay (rows_text _) _ c.advance.new.self _ _) _ c.from_residual-in_err-send-in-Err.result c.from_residual-in_err-send-in-Err.ensures.1
    (record {
      sends = record {
        sent = stands-short _ c.rows.replayer.left c.rows.text _ _ _ _ _ _ _ c.rows.invariant c.in_err-send-in-Err.ensures.sends.sent;
        later = omega (arith, c.rows.invariant.sent.later, c.send-in-Err.ensures.sends.later);
      };
      memory = λ m. not-memory _ c.in_err-send-in-Err.ensures.write m;
    })

pub rows-init : goal.rows-init
rows-init g c =
    let left = c.args.replayer.now.left in
    let known = (g.O.Sink.stream c.args.out.now).text in
    let faults = (g.O.Sink.stream c.args.out.now).faults in
    subst (λ (t : List ℕ). RowsSoFar left left t known known faults faults) (sym c.requires) (stands-none left known faults)
