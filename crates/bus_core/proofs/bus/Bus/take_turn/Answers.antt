use Rattle.bus_core.proofs.Common.{◌≡◌, ◌<◌, true, List, ◌∷◌, ◌++◌, [], subst, sym, ◌∙◌, ap, Ask, TurnRow, IsRun, parts, serve, Seen, seen, IsState, began_of, row, turned_run, turn_row, is_live}
use Rattle.bus_core.proofs.History.{kept_more, kept_same, run_seen, state_is, turns_more}
use Rattle.bus_core.proofs.Rows.{live_within}
use Rattle.bus_core.proofs.OwnTurn.{ask_is, own_orderly, row_is, or_not_true}
use Rattle.bus_core.proofs.Serves.{served_turns, on_err}
use Rattle.bus_core.proofs.bus.Bus.take_turn.Goals as goal

pub state-requires : goal.state-requires
state-requires g c =
    let b = c.self.inside in
    let live = subst (λ (x : Seen). is_live x c.args.hart ≡ true) (sym c.self.view_is) c.requires.live in
    subst (λ n. c.args.hart < n) b.plain.fits.harts (live_within (parts b.plain).trace.harts.items c.args.hart live)

pub ask_next-requires-clause-hart : goal.ask_next-requires-clause-hart
ask_next-requires-clause-hart g c =
    let b = c.self.inside in
    let live = subst (λ (x : Seen). is_live x c.args.hart ≡ true) (sym c.self.view_is) c.requires.live in
    subst (λ n. c.args.hart < n) b.plain.fits.harts (live_within (parts b.plain).trace.harts.items c.args.hart live)

pub answer_orderly-requires-clause-meant : goal.answer_orderly-requires-clause-meant
answer_orderly-requires-clause-meant g c = λ run is.
    let live = subst (λ (x : Seen). is_live x c.args.hart ≡ true) (sym c.self.view_is) c.requires.live in
    sym (own_orderly (parts c.self.inside.plain) run c.args.hart c.ask_next.new.ask is live c.ask_next.ensures.orderly)

pub invariant_of-self : goal.invariant_of-self
invariant_of-self g c =
    let b = c.self.inside in
    let e = c.in_err-reply.ensures.answers in
    kept_same g.B.Book.tells (g.B.Book.told b.book) _ (parts b.plain) (parts c.answer_orderly.new.plain) b.halted b.disordered c.answer_orderly.ensures.rows e.start e.served c.self.invariant

pub returns-in_err-reply-clause-kept : goal.returns-in_err-reply-clause-kept
returns-in_err-reply-clause-kept g c = on_err c.from_residual.result _ (c.answer_orderly.ensures.rows ∙ ap (λ (x : Seen). x.rows) c.self.view_is)

pub returns-in_err-reply-clause-refused : goal.returns-in_err-reply-clause-refused
returns-in_err-reply-clause-refused g c =
    let b = c.self.inside in
    let p = parts b.plain in let q = parts c.answer_orderly.new.plain in let told = g.B.Book.told b.book in
    on_err c.from_residual.result _ (λ run is.
    state_is q b.halted b.disordered (g.B.Book.told c.answer_orderly.new.book) run (c.in_err-reply.ensures.answers.served run (run_seen c.notes_decide.ensures p b.halted b.disordered told _ run c.self.view_is is)))

pub invariant_of-self-2 : goal.invariant_of-self-2
invariant_of-self-2 g c =
    let b = c.self.inside in
    let p = parts b.plain in
    let k = c.args.hart in let ask = c.ask_next.new.ask in let r = c.in_ok-reply in
    let live = subst (λ (x : Seen). is_live x k ≡ true) (sym c.self.view_is) c.requires.live in
    kept_more g.B.Book.tells (g.B.Book.told b.book) _ p (parts c.answer_orderly.new.plain) b.halted b.disordered b.disordered true k ask r.reply r.guarded
    (λ t. c.note.ensures.row t ∙ ap (λ (rs : List TurnRow). rs ++ row k ask r.reply r.guarded ∷ []) c.answer_orderly.ensures.rows)
    b.plain.fits.harts live c.answer_orderly.ensures.answers.start r.ensures.answers.served (λ run is. own_orderly p run k ask is live c.ask_next.ensures.orderly) (or_not_true b.disordered) c.self.invariant

pub returns-clause-state : goal.returns-clause-state
returns-clause-state g c = λ run is.
    let b = c.self.inside in
    let p = parts b.plain in let q = parts c.answer_orderly.new.plain in let told = g.B.Book.told b.book in
    let k = c.args.hart in let ask = c.ask_next.new.ask in
    let live = subst (λ (x : Seen). is_live x k ≡ true) (sym c.self.view_is) c.requires.live in
    let from = run_seen c.notes_decide.ensures p b.halted b.disordered told _ run c.self.view_is is in
    let now : Seen = seen q b.halted b.disordered (g.B.Book.told c.note.new.self) in
    let asks = ask_is p run k ask from live c.ask_next.ensures.asks in
    let served : IsRun q (turned_run (began_of p.start) run k) = subst (λ (a : Ask). IsRun q (serve p.start.settings p.start.image run k a).run) asks (c.in_ok-reply.ensures.answers.served run from).2 in
    subst (λ (x : Seen). IsState now (turned_run x.began run k)) c.self.view_is
    (state_is q b.halted b.disordered (g.B.Book.told c.note.new.self) (turned_run (began_of p.start) run k) served)

pub returns-clause-told : goal.returns-clause-told
returns-clause-told g c = λ t run is.
    let b = c.self.inside in
    let p = parts b.plain in let told = g.B.Book.told b.book in
    let k = c.args.hart in let ask = c.ask_next.new.ask in let r = c.in_ok-reply in
    let e = c.in_ok-reply.ensures in
    let live = subst (λ (x : Seen). is_live x k ≡ true) (sym c.self.view_is) c.requires.live in
    let from = run_seen c.notes_decide.ensures p b.halted b.disordered told _ run c.self.view_is is in
    let asks = ask_is p run k ask from live c.ask_next.ensures.asks in
    c.note.ensures.row t ∙ ap (λ (rs : List TurnRow). rs ++ row k ask r.reply r.guarded ∷ []) c.answer_orderly.ensures.rows
    ∙ ap (λ (x : TurnRow). told ++ x ∷ []) (row_is (began_of p.start) run k ask r.reply r.guarded asks (e.answers.served run from).0 (e.answers.served run from).1)
    ∙ ap (λ (x : Seen). x.rows ++ turn_row x.began run k ∷ []) c.self.view_is

pub returns-clause-turns : goal.returns-clause-turns
returns-clause-turns g c =
    let p = parts c.self.inside.plain in
    let some = c.self.invariant.some in
    turns_more p _ _ _ _ some.0 _ c.self.view_is some.1 (λ run is. (c.in_ok-reply.ensures.answers.served run is).2.turns ∙ served_turns p.start.settings p.start.image run c.args.hart c.ask_next.new.ask)
