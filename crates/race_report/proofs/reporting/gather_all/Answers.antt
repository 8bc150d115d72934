use Rattle.std.proofs.Common.{◌∙◌, sym}
use Rattle.race_report.proofs.Stepping.{way_has, way_next, way_fewer, way_done, way_stopped}
use Rattle.race_report.proofs.reporting.gather_all.Goals as goal

pub advance-requires-clause-state : goal.advance-requires-clause-state
advance-requires-clause-state c =
    let t = c.steps.invariant.there in
    way_has c.runs_go_by_steps.ensures t.0 c.args.most c.in-Hart.hart t.1 c.steps.joint c.steps.gathered (sym c.next.ensures ∙ c.in-Hart.is) t.2

pub steps-smaller : goal.steps-smaller
steps-smaller c =
    let t = c.steps.invariant.there in
    way_fewer c.runs_go_by_steps.ensures t.0 c.args.most c.in-Hart.hart t.1 c.steps.joint c.advance.new.joint c.steps.gathered c.advance.new.gathered c.in-Ok.field-0 (sym c.next.ensures ∙ c.in-Hart.is) t.2 c.in-Ok.ensures.advances

pub steps-preserved : goal.steps-preserved
steps-preserved c =
    let t = c.steps.invariant.there in
    let lowest = sym c.next.ensures ∙ c.in-Hart.is in
    record {
      there = (t.0, t.1, way_next c.runs_go_by_steps.ensures t.0 c.args.most c.in-Hart.hart t.1 c.steps.joint c.advance.new.joint c.steps.gathered c.advance.new.gathered c.in-Ok.field-0 lowest t.2 c.in-Ok.ensures.advances);
      on = λ harts first w.
          way_next c.runs_go_by_steps.ensures harts c.args.most c.in-Hart.hart first c.steps.joint c.advance.new.joint c.steps.gathered c.advance.new.gathered c.in-Ok.field-0 lowest (c.steps.invariant.on harts first w) c.in-Ok.ensures.advances;
    }

pub returns-in-AllDone-clause-gathers : goal.returns-in-AllDone-clause-gathers
returns-in-AllDone-clause-gathers c = λ harts first w.
    way_done c.runs_go_by_steps.ensures harts c.args.most first c.steps.joint c.steps.gathered (sym c.next.ensures ∙ c.in-AllDone.is) (c.steps.invariant.on harts first w)

pub returns-in-NoneReady-clause-gathers : goal.returns-in-NoneReady-clause-gathers
returns-in-NoneReady-clause-gathers c = λ harts first w.
    way_stopped harts c.args.most first c.steps.joint c.steps.gathered c.stuck.result (c.steps.invariant.on harts first w) c.stuck.ensures.stops

pub returns-in-Err-clause-gathers : goal.returns-in-Err-clause-gathers
returns-in-Err-clause-gathers c = λ harts first w.
    way_stopped harts c.args.most first c.steps.joint c.steps.gathered c.in-Err.error (c.steps.invariant.on harts first w) c.in-Err.ensures.advances
