use Rattle.bugnet.proofs.Common.{inl, refl, subst, arith, ToldRefusal, Refusal, closed-done, reading, ToldStop, SessionEnds}
use Rattle.bugnet.proofs.Debugs.{pair-done, pair-stopped, stop-begun, stop-writes}
use Rattle.bugnet.proofs.commands.debug.debug_trail.Goals as goal

pub returns-in-Ok : goal.returns-in-Ok
returns-in-Ok g c = λ first same names status err end closed.
    let i = reading g.I.Source.source g.I.Source.note c.args.input.now c.debug.new.input in
    let out = g.O.Sink.stream c.args.out.now in
    let printed = g.O.Sink.stream c.debug.new.out in
    closed-done (λ n e. SessionEnds names first n i out printed err e) status err end closed
    (record {
      told = pair-done names first c.args.trail.now.trace _ i.before i.after i.notes out printed err same c.in-Ok.ensures.told;
      begun = inl refl;
      write = λ e. absurd (omega (arith, e));
      read_later = c.debug.ensures.read;
      out_later = c.debug.ensures.later;
      err_later = omega arith;
    })

pub returns-in-Err : goal.returns-in-Err
returns-in-Err g c = λ first same names status err end closed.
    let i = reading g.I.Source.source g.I.Source.note c.args.input.now c.debug.new.input in
    let out = g.O.Sink.stream c.args.out.now in
    let printed = g.O.Sink.stream c.debug.new.out in
    let told : ToldStop names c.in-Err.error status err.text end.text err.faults end.faults =
    subst (λ (r : Refusal). ToldRefusal names r status err.text end.text err.faults end.faults) c.refusal_of.ensures closed.0 in
    record {
      told = pair-stopped names first c.args.trail.now.trace c.in-Err.error status i.before i.after i.notes out printed err end same c.in-Err.ensures.told told;
      begun = stop-begun names c.in-Err.error status err.text end.text err.faults end.faults told;
      write = λ e. inl (stop-writes c.args.trail.now.trace names c.in-Err.error status c.in-Err.ensures.told.gone i.before i.after out printed err.text end.text err.faults end.faults c.in-Err.ensures.told.done told e);
      read_later = c.debug.ensures.read;
      out_later = c.debug.ensures.later;
      err_later = closed.1;
    }
