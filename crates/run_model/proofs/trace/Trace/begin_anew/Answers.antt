use Rattle.run_model.proofs.Common.{◌∙◌, ◌+◌, ◌++◌, length, refl, ap, subst, get_or-set_same, get_or-set_other, length-set, TurnEnd, anew, next_records, no_hart, taken, IsLog}
use Rattle.run_model.proofs.Owns.{hart_at, hart_of_run}
use Rattle.run_model.proofs.Begun.{trace_begun}
use Rattle.run_model.proofs.trace.Trace.begin_anew.Goals as goal

pub returns-clause-run : goal.returns-clause-run
returns-clause-run c settings run is =
    let t = c.args.self.now in let k = c.args.hart in let s = c.args.state.now in
    let x = c.index-before.result.now in
    let there = hart_at t.harts.items k x c.requires.hart c.index-before.ensures ∙ hart_of_run t.harts.items k run.harts is.harts c.requires.hart in
    trace_begun settings t _ run k s x c.begin_anew.new.self is c.requires.hart there
    (subst (λ (n : TurnEnd). IsLog c.append_next.new.log (run.stream ++ next_records n k x.number s)) c.by_guard.ensures (c.append_next.ensures.holds run.stream is.log))
    c.begin_anew.ensures refl (c.clear.ensures.stands settings run.events is.caches) refl

pub returns-clause-anew : goal.returns-clause-anew
returns-clause-anew c =
    let t = c.args.self.now in let k = c.args.hart in let s = c.args.state.now in
    let x = c.index-before.result.now in
    let there = hart_at t.harts.items k x c.requires.hart c.index-before.ensures in
    let own = c.begin_anew.new.self in
    record {
      own = get_or-set_same t.harts.items k own no_hart c.requires.hart ∙ c.begin_anew.ensures ∙ ap (anew s c.append_next.new.log.bytes) there;
      others = λ j differ. get_or-set_other t.harts.items k j own no_hart differ;
      len = length-set t.harts.items k own;
      caches = c.clear.ensures.count;
      steps = c.clear.ensures.steps;
      shadow = refl;
      took = c.append_next.ensures.took.count_is ∙ ap (λ (n : TurnEnd). taken t.log.ring + length (next_records n k x.number s)) c.by_guard.ensures;
      size = c.append_next.ensures.took.size;
    }
