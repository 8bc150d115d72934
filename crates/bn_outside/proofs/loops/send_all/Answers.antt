use Rattle.std.proofs.Common.{arith, ◌∙◌, length-drop}
use Rattle.std.proofs.Math.Seq.{take-add}
use Rattle.std.proofs.lemmas.List.{take_rest}
use Rattle.bn_outside.proofs.Pieces.{appends_both}
use Rattle.bn_outside.proofs.loops.send_all.Goals as goal

pub loop-sent-preserved : goal.loop-sent-preserved
loop-sent-preserved g c = record {
  within = omega (arith, c.in_ok-sent.ensures.bound, length-drop c.loop-sent.sent c.args.text.now);
  gained = rw (take-add c.loop-sent.sent c.in_ok-sent.field-0 c.args.text.now)
      (appends_both _ _ _ _ _ c.loop-sent.invariant.gained (rw (take_rest c.args.text.now c.loop-sent.sent) at c.in_ok-sent.ensures.taken));
  same = c.in_ok-sent.ensures.once ∙ c.loop-sent.invariant.same;
}
