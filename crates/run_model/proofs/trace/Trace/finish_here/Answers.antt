use Rattle.run_model.proofs.Common.{AreCaches, Global, Hart, Log, None, TurnEnd, Vec, ap, arith, ask_here, IsLog, events_after, hart_after, hart_in, length, length-set, subst, sym, taken, ◌∙◌}
use Rattle.run_model.proofs.Owns.{hart_at}
use Rattle.run_model.proofs.Stopping.{IsTurnTaken, finished_harts, finished_log, is_finished}
use Rattle.run_model.proofs.trace.Trace.finish_here.Goals.{After-take_turn_here-next}
use Rattle.run_model.proofs.trace.Trace.finish_here.Goals as goal

took : (c : After-take_turn_here-next)
    → IsTurnTaken c.args.settings.now None (hart_in c.args.self.now.harts.items c.args.hart) c.args.hart (ask_here (hart_in c.args.self.now.harts.items c.args.hart) c.args.want.now) c.args.reply c.args.load c.take_turn_here-next.result c.take_turn_here-next.new.own c.args.self.now.log c.take_turn_here-next.new.log
took c =
    let t = c.take_turn_here-next in
    subst (λ (y : Hart). IsTurnTaken c.args.settings.now None y c.args.hart (ask_here y c.args.want.now) c.args.reply c.args.load t.result t.new.own c.args.self.now.log t.new.log)
    (hart_at c.args.self.now.harts.items c.args.hart c.index_mut-own.result.now c.requires.hart c.index_mut-own.ensures.value) (record { next = t.ensures.next; own_is = t.ensures.own; holds = t.ensures.holds })

pub returns-clause-harts : goal.returns-clause-harts
returns-clause-harts c f are =
    let b = c.begin in let e = c.end_others.ensures in
    finished_harts c.args.self.now.harts.items b.new.self.harts.items _ _ f (took (goal.at.returns-clause-harts c).After-take_turn_here-next) c.requires.hart (ap (λ (v : Vec Hart Global). v.items) b.ensures.harts)
    (λ s skipped h. ap (λ (l : Log). hart_after c.take_turn_here-next.result s skipped l.bytes h) (sym b.ensures.log) ∙ e.headed s skipped h) e.harts are

pub returns-clause-holds : goal.returns-clause-holds
returns-clause-holds c f rs are held =
    let b = c.begin in let e = c.end_others.ensures in
    finished_log c.args.self.now.harts.items b.new.self.harts.items _ f rs (took (goal.at.returns-clause-holds c).After-take_turn_here-next) c.requires.hart (ap (λ (v : Vec Hart Global). v.items) b.ensures.harts)
    (λ g ys begun log. e.holds g ys begun (subst (λ (l : Log). IsLog l ys) (sym b.ensures.log) log)) are held

pub returns-clause-caches : goal.returns-clause-caches
returns-clause-caches c s span events are =
    subst (λ (n : TurnEnd). AreCaches s c.begin.new.self.caches (events_after n c.args.hart None span events)) (took (goal.at.returns-clause-caches c).After-take_turn_here-next).next
    (c.begin.ensures.caches s None span events are)

pub returns-clause-finished : goal.returns-clause-finished
returns-clause-finished c =
    let t = c.take_turn_here-next in let b = c.begin.ensures in let e = c.end_others.ensures in let w = c.sweep_at_end.ensures in
    is_finished c.args.self.now _ c.args.hart t.result _ _ _ (took (goal.at.returns-clause-finished c).After-take_turn_here-next).next b.shadow c.deref.ensures.value
    (e.len ∙ ap (λ (v : Vec Hart Global). length v.items) b.harts ∙ length-set c.args.self.now.harts.items c.args.hart t.new.own) b.count b.steps w.swept w.due
    (omega (arith, t.ensures.took, ap (λ (l : Log). taken l.ring) b.log, e.took)) (e.size ∙ ap (λ (l : Log). l.ring.size) b.log ∙ t.ensures.size)
