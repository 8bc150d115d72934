use Rattle.bus_core.proofs.Common.{◌≡◌, ◌<◌, ◌≤◌, ◌-◌, true, false, subst, sym, ◌∙◌, arith, refl, Bool, IsTrue, Ask, RawSettings, Hart, hart_in, parts, ask_at, budget, is_orderly, Seen, seen, IsState, began_of, turned_run, is_live}
use Rattle.std.proofs.lemmas.Grind.{common_steps}
use Rattle.bus_core.proofs.History.{history_turned, kept_same, run_seen, state_is, turns_more}
use Rattle.bus_core.proofs.Rows.{live_within}
use Rattle.bus_core.proofs.Serves.{served_turns, on_err}
use Rattle.bus_core.proofs.bus.Bus.take_untold.Goals as goal

within_limit : (c : RawSettings) (h : Hart) → budget c h ≤ c.limit - h.state.ic
within_limit c h = grind (arith, common_steps)

pub invariant_of-self : goal.invariant_of-self
invariant_of-self g c =
    let b = c.self.inside in
    kept_same g.B.Book.tells (g.B.Book.told b.book) _ (parts b.plain) (parts c.turn_ahead.new.self) b.halted b.disordered refl c.turn_ahead.ensures.start c.in_err-turn_ahead.ensures.refused c.self.invariant

pub invariant_of-self-2 : goal.invariant_of-self-2
invariant_of-self-2 g c =
    let b = c.self.inside in
    let p = parts b.plain in let q = parts c.turn_ahead.new.self in
    let k = c.args.hart in
    let h : Hart = hart_in p.trace.harts.items k in
    let s = c.self.invariant.some in
    let live = subst (λ (x : Seen). is_live x k ≡ true) (sym c.self.view_is) c.requires.live in
    let within : k < p.start.settings.harts = subst (λ n. k < n) b.plain.fits.harts (live_within p.trace.harts.items k live) in
    let ask : Ask = ask_at p.start.settings p.start.image h in
    let o : IsTrue (is_orderly p.start.settings p.start.image h ask) = c.each_ask_is_orderly.ensures.orderly p.start.image (budget p.start.settings h) h.state (omega (arith, within_limit p.start.settings h, (b.plain.fits.each k within).fit.fit.limit, b.plain.fits.settings.limit_high)) in
    record {
      told = λ t. absurd (apart t c.requires.untold);
      some = history_turned p q b.halted b.disordered s.0 k ask b.plain.fits.harts live c.turn_ahead.ensures.start o refl c.in_ok-turn_ahead.ensures.run s.1;
    }
  where
    apart : {b : Bool} → b ≡ true → b ≡ false → ⊥
    apart t f = cc

pub returns-in_err-turn_ahead-clause-refused : goal.returns-in_err-turn_ahead-clause-refused
returns-in_err-turn_ahead-clause-refused g c =
    let b = c.self.inside in
    let p = parts b.plain in let q = parts c.turn_ahead.new.self in let told = g.B.Book.told b.book in
    on_err c.from_residual.result _ (λ run is.
    state_is q b.halted b.disordered told run (c.in_err-turn_ahead.ensures.refused run (run_seen c.notes_decide.ensures p b.halted b.disordered told _ run c.self.view_is is)))

pub returns-clause-state : goal.returns-clause-state
returns-clause-state g c = λ run is.
    let b = c.self.inside in
    let p = parts b.plain in let q = parts c.turn_ahead.new.self in let told = g.B.Book.told b.book in
    let k = c.args.hart in
    let from = run_seen c.notes_decide.ensures p b.halted b.disordered told _ run c.self.view_is is in
    subst (λ (x : Seen). IsState (seen q b.halted b.disordered told) (turned_run x.began run k)) c.self.view_is
    (state_is q b.halted b.disordered told (turned_run (began_of p.start) run k) (c.in_ok-turn_ahead.ensures.run run from))

pub returns-clause-turns : goal.returns-clause-turns
returns-clause-turns g c =
    let p = parts c.self.inside.plain in
    let some = c.self.invariant.some in
    turns_more p _ _ _ _ some.0 _ c.self.view_is some.1 (λ run is. (c.in_ok-turn_ahead.ensures.run run is).turns ∙ served_turns p.start.settings p.start.image run c.args.hart (ask_at p.start.settings p.start.image (run.harts c.args.hart)))
