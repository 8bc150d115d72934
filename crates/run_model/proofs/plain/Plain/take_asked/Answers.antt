use Rattle.run_model.proofs.Common.{◌≡◌, sym, subst, ap, ◌∙◌, arith, true, Vec, IsTrue, Global, Hart, Start, hart_in, call_of, IsRun, Run, ask_at, is_orderly, is_guarded, serve_call, parts}
use Rattle.run_model.proofs.Owns.{hart_of_run}
use Rattle.run_model.proofs.OneTurn.{live_within, asked_orderly, passes_of, turn_is}
use Rattle.run_model.proofs.plain.Plain.take_asked.Goals as goal

pub prepare-requires : goal.prepare-requires
prepare-requires c =
    let p = c.args.self.now in let k = c.args.hart in let h = hart_in p.trace.harts.items k in
    let live = live_within p.trace.harts.items k c.requires.live in
    let fit = (p.fits.each k (omega (arith, live.0, p.fits.harts))).fit.fit in
    passes_of p.start.settings p.start.image h c.args.ask.now (asked_orderly c.each_ask_is_orderly.ensures.orderly p.start.settings p.start.image h c.args.ask.now p.fits.settings.limit_high fit c.requires.asked)

pub apply-requires-clause-hart : goal.apply-requires-clause-hart
apply-requires-clause-hart c =
    let p = c.args.self.now in
    let live = live_within p.trace.harts.items c.args.hart c.requires.live in
    omega (arith, live.0, p.fits.harts, ap (λ (s : Start). s.settings.harts) c.prepare.ensures.start)

pub apply-requires-clause-live : goal.apply-requires-clause-live
apply-requires-clause-live c =
    let live = live_within c.args.self.now.trace.harts.items c.args.hart c.requires.live in
    subst (λ (v : Vec Hart Global). (hart_in v.items c.args.hart).live ≡ true) (sym c.prepare.ensures.harts) live.1

pub apply-requires-clause-orderly : goal.apply-requires-clause-orderly
apply-requires-clause-orderly c =
    let p = c.args.self.now in let k = c.args.hart in let h = hart_in p.trace.harts.items k in
    let live = live_within p.trace.harts.items k c.requires.live in
    let fit = (p.fits.each k (omega (arith, live.0, p.fits.harts))).fit.fit in
    let o = asked_orderly c.each_ask_is_orderly.ensures.orderly p.start.settings p.start.image h c.args.ask.now p.fits.settings.limit_high fit c.requires.asked in
    subst (λ (s : Start). IsTrue (is_orderly s.settings s.image (hart_in c.prepare.new.self.trace.harts.items k) c.args.ask.now)) (sym c.prepare.ensures.start)
    (subst (λ (v : Vec Hart Global). IsTrue (is_orderly p.start.settings p.start.image (hart_in v.items k) c.args.ask.now)) (sym c.prepare.ensures.harts) o)

pub returns-clause-run : goal.returns-clause-run
returns-clause-run c run is =
    let p = c.args.self.now in let k = c.args.hart in let hs = p.trace.harts.items in let ask = c.args.ask.now in
    let live = live_within hs k c.requires.live in
    let there : hart_in hs k ≡ run.harts k = hart_of_run hs k run.harts is.trace.harts live.0 in
    let fit = (p.fits.each k (omega (arith, live.0, p.fits.harts))).fit.fit in
    let own = asked_orderly c.each_ask_is_orderly.ensures.orderly p.start.settings p.start.image (hart_in hs k) ask p.fits.settings.limit_high fit c.requires.asked in
    let o = subst (λ (h : Hart). IsTrue (is_orderly p.start.settings p.start.image h ask)) there own in
    let asked = c.requires.asked ∙ ap (λ (h : Hart). ask_at p.start.settings p.start.image h) there in
    let same = c.prepare.ensures.start in
    let is_new = c.prepare.ensures.run run is in
    let call : c.in_ok-call.call ≡ call_of p.start.image run.machine ask.want = c.in_ok-call.ensures.call run.machine is_new.machine ∙ ap (λ (s : Start). call_of s.image run.machine ask.want) same in
    subst (λ (r : Run). IsRun (parts c.apply.new.self) r) (turn_is p.start.settings p.start.image run k ask c.in_ok-call.call asked call o)
    (subst (λ (s : Start). IsRun (parts c.apply.new.self) (serve_call s.settings run k ask (is_guarded s.settings run k ask.want) c.in_ok-call.call).run) same (c.apply.ensures.run run is_new))
