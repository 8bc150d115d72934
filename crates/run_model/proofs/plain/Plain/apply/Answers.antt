use Rattle.run_model.proofs.Common.{◌+◌, ◌∙◌, Bool, IsRaceReady, IsRun, List, Shadow, answer, arith, guarded_run, hart_in, parts, serve_call, span_of, steps_in, subst, sym, taken, ℕ}
use Rattle.run_model.specs.Represents.Parts.{IsAnswer}
use Rattle.run_model.proofs.Asked.{IsAsked, asked_fit, few_steps, low_number, some_room}
use Rattle.run_model.proofs.Meant.{is_meant, meant}
use Rattle.run_model.proofs.OneTurn.{passes_of}
use Rattle.run_model.proofs.PlainRuns.{race_ready}
use Rattle.run_model.proofs.PlainTurns.{HasAccessed, HasFinished, may_finish, may_note, turned_fits, turned_run}
use Rattle.run_model.proofs.plain.Plain.apply.Goals.{After-access-load, After-answer-reply, After-finish, After-guard}
use Rattle.run_model.proofs.plain.Plain.apply.Goals as goal

asked : (c : After-guard) → IsAsked c.args.self.now.start.settings c.args.self.now.start.image c.guard.new.self c.args.self.now.turns c.args.hart c.args.ask.now
asked c =
    let p = c.args.self.now in
    asked_fit c.guarded_asks_fit.ensures p.start.settings p.start.image p.trace c.guard.new.self p.turns c.args.hart c.args.ask.now c.is_guarded-guarded.result p.fits c.requires.hart c.requires.live c.requires.orderly
    c.is_guarded-guarded.ensures.uncut c.guard.ensures.anew c.guard.ensures.same

answers : (c : After-answer-reply) → IsAnswer c.args.self.now.start.input.items c.args.self.now.machine c.answer-reply.new.self c.answer-reply.result (λ m. answer c.args.self.now.start.settings c.args.call m c.args.hart c.args.ask.now)
answers c =
    let p = c.args.self.now in
    subst (λ (xs : List ℕ). IsAnswer xs p.machine c.answer-reply.new.self c.answer-reply.result (λ m. answer p.start.settings c.args.call m c.args.hart c.args.ask.now)) c.deref.ensures.value c.answer-reply.ensures.answer

accessed : (c : After-access-load) → IsAsked c.args.self.now.start.settings c.args.self.now.start.image c.guard.new.self c.args.self.now.turns c.args.hart c.args.ask.now
    → IsAnswer c.args.self.now.start.input.items c.args.self.now.machine c.answer-reply.new.self c.answer-reply.result (λ m. answer c.args.self.now.start.settings c.args.call m c.args.hart c.args.ask.now)
    → HasAccessed (record (parts c.args.self.now) { trace = c.guard.new.self }) c.access-load.new.self c.args.hart c.args.ask.now c.args.call c.answer-reply.result c.access-load.result c.word_before-word.result
accessed c q answer =
    let p = c.args.self.now in let a = c.access-load.ensures in
    let m = meant p.start.input.items p.machine in
    record {
      asked = q;
      given = λ m is. record { call_is = c.requires.call m is; word_is = c.word_before-word.ensures _ m is; reply_is = answer.reply m is };
      fits = c.answer-reply.ensures.fits;
      load_is = λ s events are. a.load s p.start.image m events (c.requires.call m (is_meant p.start.input.items p.machine)) are;
      loads = a.loading;
      caches = a.caches;
      noted = a.noted;
      holds = a.holds;
      harts = a.harts;
      count = a.count;
      steps = a.steps;
      took = a.took;
      size = a.size;
    }

finished : (c : After-finish) → HasFinished c.args.self.now.start.settings c.access-load.new.self c.finish.new.self c.args.hart c.args.ask.now c.args.call c.answer-reply.result c.access-load.result
finished c = let n = c.finish.ensures in record { harts = n.harts; holds = n.holds; caches = n.caches; finished = n.finished }

pub returns-clause-run : goal.returns-clause-run
returns-clause-run c run is =
    let p = c.args.self.now in
    let at = goal.at.returns-clause-run c in
    let before : IsRun (record (parts p) { trace = c.guard.new.self }) (guarded_run c.is_guarded-guarded.result run c.args.hart c.args.ask.now.state) = record { machine = is.machine; trace = c.guard.ensures.run p.start.settings run is.trace; turns = is.turns } in
    subst (λ (b : Bool). IsRun (record { start = p.start; machine = c.answer-reply.new.self; trace = c.finish.new.self; turns = p.turns + 1 }) (serve_call p.start.settings run c.args.hart c.args.ask.now b c.args.call).run) (c.is_guarded-guarded.ensures.run run is)
    (turned_run c.finish.new.self c.answer-reply.new.self _ (accessed at.After-access-load (asked at.After-guard) (answers at.After-answer-reply)) (finished at.After-finish) (answers at.After-answer-reply).stands before)

pub invariant_of-self : goal.invariant_of-self
invariant_of-self c =
    let at = goal.at.invariant_of-self c in
    record {
      memory = c.answer-reply.ensures.size ∙ c.args.self.now.memory;
      fits = turned_fits c.each_turn_moves_on.ensures c.finish.new.self (accessed at.After-access-load (asked at.After-guard) (answers at.After-answer-reply)) (finished c);
    }

-- ---- what the steps need

pub guard-requires : goal.guard-requires
guard-requires c =
    let p = c.args.self.now in let h = hart_in p.trace.harts.items c.args.hart in
    let fit = p.fits.each c.args.hart c.requires.hart in
    record {
      hart = omega (arith, c.requires.hart, p.fits.harts);
      caches = omega (arith, c.requires.hart, p.fits.caches);
      steps = few_steps p.start.settings h (steps_in p.trace.caches c.args.hart) fit.fit.fit p.fits.settings.limit_high fit.steps;
      number = low_number p.start.settings h fit.fit.fit p.fits.settings.limit_high;
      room = some_room p.start.settings p.turns _ (taken p.trace.log.ring) 2 p.fits.few p.fits.settings.limit_high p.fits.left (omega (arith, p.fits.log)) (omega arith);
    }

pub access-load-requires : goal.access-load-requires
access-load-requires c =
    let p = c.args.self.now in let t = c.guard.new.self in
    let q = asked (goal.at.access-load-requires c).After-guard in
    record {
      hart = omega (arith, q.within, q.harts);
      caches = omega (arith, q.within, q.caches);
      steps = few_steps p.start.settings (hart_in t.harts.items c.args.hart) (steps_in t.caches c.args.hart) q.own.fit q.settings.limit_high q.own.steps;
      addresses = c.requires.addresses c.answer-reply.result;
      note = may_note c.each_turn_moves_on.ensures _ q (subst (λ (x : Shadow). IsRaceReady x (span_of c.args.call c.args.ask.now.want c.answer-reply.result)) (sym c.guard.ensures.shadow) (race_ready p.trace.shadow c.args.call c.args.ask.now.want c.answer-reply.result c.requires.race));
      room = some_room p.start.settings p.turns _ (taken t.log.ring) 18 q.few q.settings.limit_high q.left (omega (arith, q.log)) (omega arith);
    }

pub finish-requires : goal.finish-requires
finish-requires c = let at = goal.at.finish-requires c in may_finish c.each_turn_moves_on.ensures (accessed at.After-access-load (asked at.After-guard) (answers at.After-answer-reply))

-- ---- the machine's part

pub word_before-word-requires-clause-passes : goal.word_before-word-requires-clause-passes
word_before-word-requires-clause-passes c =
    let p = c.args.self.now in
    passes_of p.start.settings p.start.image (hart_in p.trace.harts.items c.args.hart) c.args.ask.now c.requires.orderly
