use Rattle.run_model.proofs.Common.{◌≡◌, ◌++◌, List, refl, sym, subst, length, Record, IsLog, hart_after, TurnEnd}
use Rattle.run_model.proofs.Stopping.{all_stopped, over_harts, over_records}
use Rattle.run_model.proofs.harts.end_others.Goals as goal

pub returns-in-RunOver-clause-harts : goal.returns-in-RunOver-clause-harts
returns-in-RunOver-clause-harts c f are =
    let s = c.stop_others in
    over_harts c.args.next c.in-RunOver.reason c.in-RunOver.value s.new.harts.items c.args.own f c.in-RunOver.is (all_stopped s.new.harts.items c.args.own (length c.args.harts.now.items) f (s.ensures.harts f are) (sym s.ensures.len))

pub returns-in-RunOver-clause-holds : goal.returns-in-RunOver-clause-holds
returns-in-RunOver-clause-holds c f rs are held =
    let s = c.stop_others in
    subst (λ (xs : List Record). IsLog s.new.log (rs ++ xs)) (over_records c.args.next c.in-RunOver.reason c.in-RunOver.value c.args.own (length c.args.harts.now.items) f c.in-RunOver.is) (s.ensures.holds f rs are held)

pub returns-in-RunOver-clause-headed : goal.returns-in-RunOver-clause-headed
returns-in-RunOver-clause-headed c s skipped h =
    subst (λ (n : TurnEnd). hart_after n s skipped c.args.log.now.bytes h ≡ hart_after n s skipped c.stop_others.new.log.bytes h) (sym c.in-RunOver.is) refl
