use Rattle.bus_core.proofs.Common.{◌≡◌, Bool, true, not, ◌||◌, subst, sym, ◌∙◌, ap, is_orderly, serve, parts, Seen, seen, IsState, is_live}
use Rattle.bus_core.proofs.History.{kept_more, kept_same, run_seen, state_is, turns_more}
use Rattle.bus_core.proofs.Serves.{served_turns, on_err, or_first, or_second}
use Rattle.bus_core.proofs.bus.Bus.serve.Goals as goal
use Rattle.bus_core.proofs.bus.Bus.serve.Goals.{then-self, else-self}

pub invariant_of-self : goal.invariant_of-self
invariant_of-self g c =
    let b = c.self.inside in
    let e = c.in_err-served.ensures in
    kept_same g.B.Book.tells (g.B.Book.told b.book) _ (parts b.plain) (parts c.take.new.plain) b.halted b.disordered e.rows e.answers.start e.answers.served c.self.invariant

pub returns-in_err-served-clause-refused : goal.returns-in_err-served-clause-refused
returns-in_err-served-clause-refused g c =
    let b = c.self.inside in
    let p = parts b.plain in let q = parts c.take.new.plain in let told = g.B.Book.told b.book in
    on_err c.from_residual.result _ (λ run is.
    state_is q b.halted b.disordered (g.B.Book.told c.take.new.book) run (c.in_err-served.ensures.answers.served run (run_seen c.notes_decide.ensures p b.halted b.disordered told _ run c.self.view_is is)))

pub returns-in_err-served-clause-kept : goal.returns-in_err-served-clause-kept
returns-in_err-served-clause-kept g c = on_err c.from_residual.result _ (c.in_err-served.ensures.rows ∙ ap (λ (x : Seen). x.rows) c.self.view_is, ap (λ (x : Seen). x.disordered) c.self.view_is)

pub invariant_of-self-2 : goal.invariant_of-self-2
invariant_of-self-2 g c =
    let b = c.self.inside in
    let o = c.is_orderly-orderly.result in let k = c.args.hart in
    let e = c.in_ok-served.ensures in
    let live = subst (λ (x : Seen). is_live x k ≡ true) (sym c.self.view_is) c.requires in
    let d : c.if-self.self ≡ (b.disordered || not o) = elim c.if-self.branch [ then-self w ↦ or_first b.disordered c.if-self.self (not o) w.self-is w.if-self.true | else-self w ↦ or_second b.disordered c.if-self.self (not o) w.self-is w.if-self.false ] in
    kept_more g.B.Book.tells (g.B.Book.told b.book) _ (parts b.plain) (parts c.take.new.plain) b.halted b.disordered c.if-self.self o k c.args.ask.now c.in_ok-served.served.0 c.in_ok-served.served.1 e.rows
    b.plain.fits.harts live e.answers.start e.answers.served c.is_orderly-orderly.ensures.run d c.self.invariant

pub returns-clause-reply : goal.returns-clause-reply
returns-clause-reply g c run is =
    let b = c.self.inside in
    let p = parts b.plain in let told = g.B.Book.told b.book in
    (c.in_ok-served.ensures.answers.served run (run_seen c.notes_decide.ensures p b.halted b.disordered told _ run c.self.view_is is)).0
    ∙ ap (λ (x : Seen). (serve x.began.settings x.began.image run c.args.hart c.args.ask.now).reply) c.self.view_is

pub returns-clause-guarded : goal.returns-clause-guarded
returns-clause-guarded g c run is =
    let b = c.self.inside in
    let p = parts b.plain in let told = g.B.Book.told b.book in
    (c.in_ok-served.ensures.answers.served run (run_seen c.notes_decide.ensures p b.halted b.disordered told _ run c.self.view_is is)).1
    ∙ ap (λ (x : Seen). (serve x.began.settings x.began.image run c.args.hart c.args.ask.now).guarded) c.self.view_is

pub returns-clause-state : goal.returns-clause-state
returns-clause-state g c run is =
    let b = c.self.inside in
    let p = parts b.plain in let q = parts c.take.new.plain in let told = g.B.Book.told b.book in
    let k = c.args.hart in let ask = c.args.ask.now in
    let now : Seen = seen q b.halted c.if-self.self (g.B.Book.told c.take.new.book) in
    subst (λ (x : Seen). IsState now (serve x.began.settings x.began.image run k ask).run) c.self.view_is
    (state_is q b.halted c.if-self.self (g.B.Book.told c.take.new.book) (serve p.start.settings p.start.image run k ask).run (c.in_ok-served.ensures.answers.served run (run_seen c.notes_decide.ensures p b.halted b.disordered told _ run c.self.view_is is)).2)

pub returns-clause-disordered : goal.returns-clause-disordered
returns-clause-disordered g c run is =
    let b = c.self.inside in
    let p = parts b.plain in let told = g.B.Book.told b.book in
    let o = c.is_orderly-orderly.result in
    let d : c.if-self.self ≡ (b.disordered || not o) = elim c.if-self.branch [ then-self w ↦ or_first b.disordered c.if-self.self (not o) w.self-is w.if-self.true | else-self w ↦ or_second b.disordered c.if-self.self (not o) w.self-is w.if-self.false ] in
    d ∙ ap (λ (x : Bool). b.disordered || not x) (c.is_orderly-orderly.ensures.run run (run_seen c.notes_decide.ensures p b.halted b.disordered told _ run c.self.view_is is))
    ∙ ap (λ (x : Seen). x.disordered || not (is_orderly x.began.settings x.began.image (run.harts c.args.hart) c.args.ask.now)) c.self.view_is

pub returns-clause-turns : goal.returns-clause-turns
returns-clause-turns g c =
    let p = parts c.self.inside.plain in
    let some = c.self.invariant.some in
    turns_more p _ _ _ _ some.0 _ c.self.view_is some.1 (λ run is. (c.in_ok-served.ensures.answers.served run is).2.turns ∙ served_turns p.start.settings p.start.image run c.args.hart c.args.ask.now)
