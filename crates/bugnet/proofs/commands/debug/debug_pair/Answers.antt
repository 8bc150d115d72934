use Rattle.bugnet.proofs.Common.{ap, inl, arith, Trailed, joined}
use Rattle.bugnet.proofs.Debugs.{pair-unbegun, memory-status, memory-begun}
use Rattle.bugnet.proofs.commands.debug.debug_pair.Goals as goal

pub returns-in-Err : goal.returns-in-Err
returns-in-Err g c = λ names status err end closed.
    let nine = memory-status names status err.text end.text err.faults end.faults closed.0 in
    record {
      told = pair-unbegun names (joined c.args.pair.now.log c.args.pair.now.image) status (g.I.Source.source c.args.input.now) g.I.Source.note _ err end closed.0;
      begun = inl (memory-begun status nine);
      write = λ e. absurd (omega (arith, e, nine));
      read_later = omega arith;
      out_later = omega arith;
      err_later = closed.1;
    }

pub returns : goal.returns
returns g c = c.debug_trail.ensures (joined c.args.pair.now.log c.args.pair.now.image) (ap (λ (t : Trailed). t.trace) c.in-Ok.ensures.fresh)
