use Rattle.log_commands.proofs.Common.{run_all, inr, SendsJoint}
use Rattle.log_commands.proofs.Answering.{passed-on}
use Rattle.log_commands.proofs.Joins.{steps-refused, steps-words, words-memory}
use Rattle.log_commands.proofs.commands.joint.send_joint.Goals as goal

pub returns-in_err-send_steps : goal.returns-in_err-send_steps
returns-in_err-send_steps g c =
    let steps = c.in_err-send_steps.ensures in
    passed-on (SendsJoint c.args.joint.now c.send_steps.new.joint _ _) _ c.from_residual.result c.from_residual.ensures.1
    (record { sends = steps-refused (run_all c.args.joint.now) _ _ _ steps.sends; memory = λ m. inr (steps.memory m) })

pub returns : goal.returns
returns g c =
    let r = run_all c.args.joint.now in
    let steps = c.in_ok-send_steps.ensures in
    record {
      sends =
          steps-words r c.send_steps.new.joint (g.O.Sink.stream c.args.out.now) (g.O.Sink.stream c.send_steps.new.out) (g.O.Sink.stream c.send_words.new.out) c.send_words.result steps.sends steps.now c.send_words.ensures;
      memory = words-memory r c.send_steps.new.joint c.send_words.result steps.sends.sent.1;
    }
