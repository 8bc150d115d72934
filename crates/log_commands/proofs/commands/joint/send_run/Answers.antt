use Rattle.log_commands.proofs.Common.{ℕ, List, Bool, inr, ◌∙◌, sym, subst, arith, Ok, Err, run_all, Advances, steps_text, stop_of, SendsSteps, SentUntil, Refusal}
use Rattle.log_commands.proofs.Answering.{passed-on}
use Rattle.log_commands.proofs.Joins.{Walks, walks-none, walks-sent, walks-more, walks-stopped, walks-short, walks-ended, walks-memory}
use Rattle.log_commands.proofs.Prints.{not-memory}
use Rattle.log_commands.proofs.commands.joint.send_run.Goals as goal

pub steps-init : goal.steps-init
steps-init g c =
    let known = (g.O.Sink.stream c.args.out.now).text in
    let faults = (g.O.Sink.stream c.args.out.now).faults in
    subst (λ (t : List ℕ). Walks c.args.joint.now c.args.joint.now t known known faults faults) (sym c.requires) (walks-none c.args.joint.now known faults)

pub steps-preserved : goal.steps-preserved
steps-preserved g c =
    walks-more c.runs_go_on.ensures c.args.joint.now c.steps.joint c.advance.new.self c.steps.text c.advance.new.out c.send_block.new.text _ _ _ _ _ _
    (rw c.in-Ok-true.field-0-test at c.in-Ok-true.ensures) c.steps.invariant c.in_ok-send_block-in-Ok-true.ensures.gathers.sent c.send_block.ensures.gathers.later

pub returns-in_err-send_block-in-Ok-true : goal.returns-in_err-send_block-in-Ok-true
returns-in_err-send_block-in-Ok-true g c =
    passed-on (SendsSteps c.args.joint.now c.advance.new.self _ _) _ c.from_residual.result c.from_residual.ensures.1
    (record {
      sends = record {
        sent = inr (walks-stopped c.runs_go_on.ensures c.args.joint.now c.steps.joint c.advance.new.self c.steps.text c.advance.new.out _ _ _ _ _ _ _
            (rw c.in-Ok-true.field-0-test at c.in-Ok-true.ensures) c.steps.invariant c.in_err-send_block-in-Ok-true.ensures.gathers.sent);
        later = omega (arith, c.steps.invariant.sent.later, c.send_block.ensures.gathers.later);
      };
      now = tt;
      memory = λ m. not-memory _ c.in_err-send_block-in-Ok-true.ensures.write m;
    })

pub returns-in-Ok-false : goal.returns-in-Ok-false
returns-in-Ok-false g c =
    walks-sent c.runs_end.ensures c.args.joint.now c.steps.joint c.advance.new.self c.steps.text c.advance.new.out (g.O.Sink.stream c.args.out.now) (g.O.Sink.stream c.steps.out) (g.O.Sink.stream c.send.new.sink) c.send.result
    (subst (λ (b : Bool). Advances c.steps.joint (Ok b) c.advance.new.self c.steps.text c.advance.new.out) c.in-Ok-false.field-0-test c.in-Ok-false.ensures) c.steps.invariant c.send.ensures.sends c.send.ensures.write

pub returns-in_err-send-in-Err : goal.returns-in_err-send-in-Err
returns-in_err-send-in-Err g c =
    passed-on (SendsSteps c.args.joint.now c.advance.new.self _ _) _ c.from_residual-in_err-send-in-Err.result c.from_residual-in_err-send-in-Err.ensures.1
    (record {
      sends = record {
        sent = inr (walks-short c.args.joint.now c.steps.joint c.steps.text c.advance.new.out _ _ _ _ _ _ _ c.in-Err.ensures.0 c.steps.invariant c.in_err-send-in-Err.ensures.sends.sent);
        later = omega (arith, c.steps.invariant.sent.later, c.send-in-Err.ensures.sends.later);
      };
      now = tt;
      memory = λ m. not-memory _ c.in_err-send-in-Err.ensures.write m;
    })

pub returns-in-Err : goal.returns-in-Err
returns-in-Err g c =
    let old = g.O.Sink.stream c.args.out.now in
    let there = g.O.Sink.stream c.send-in-Err.new.sink in
    let r = run_all c.args.joint.now in
    record {
      sends = record {
        sent = subst (λ (x : Refusal). SentUntil {A = Unit {0}} old.text there.text old.faults there.faults (steps_text r.walk.taken) (stop_of r) (Err x)) (sym c.of_joint.ensures)
            (walks-ended c.runs_end.ensures c.args.joint.now c.steps.joint c.advance.new.self c.steps.text c.advance.new.out _ _ _ _ _ _ c.in-Err.error c.in-Err.ensures c.steps.invariant
            c.in_ok-send-in-Err.ensures.sends.sent.0 c.send-in-Err.ensures.sends.later);
        later = omega (arith, c.steps.invariant.sent.later, c.send-in-Err.ensures.sends.later);
      };
      now = tt;
      memory = λ m. walks-memory c.runs_end.ensures c.args.joint.now c.steps.joint c.advance.new.self c.steps.text c.advance.new.out _ _ _ _ c.in-Err.error c.in-Err.ensures c.steps.invariant (sym c.of_joint.ensures ∙ m);
    }
