use Rattle.run_model.proofs.Common.{None, Store, arith, ask_here, hart_in, parts, refl, ◌∙◌}
use Rattle.rv_meaning.specs.declared.asks.Reply.TheVariants as replies
use Rattle.run_model.proofs.Asked.{few_turns}
use Rattle.run_model.proofs.OneTurn.{passes_of}
use Rattle.run_model.proofs.PlainTurns.{HasAccessed, HasFinished, finished_here, goes_on_here, may_access_alone, may_finish_here, stored, turned_fits, turned_one, turned_run}
use Rattle.run_model.proofs.plain.Plain.store_alone.Goals.{After-store_word_alone-load, After-finish_on}
use Rattle.run_model.proofs.plain.Plain.store_alone.Goals as goal

accessed : (c : After-store_word_alone-load)
    → HasAccessed (parts c.args.self.now) c.store_word_alone-load.new.self 0 (ask_here (hart_in c.args.self.now.trace.harts.items 0) (Store c.args.addr c.args.width c.args.value)) None c.store-reply.result c.store_word_alone-load.result c.word_before-word.result
accessed c =
    stored c.args.self.now _ _ _ _ c.index.result.now _ _ _ _ c.requires.asks c.index.ensures c.store-reply.ensures.reply c.word_before-word.ensures c.store_word_alone-load.ensures.load c.store_word_alone-load.ensures.loading c.store_word_alone-load.ensures.accessed

finished : (c : After-finish_on)
    → HasFinished c.args.self.now.start.settings c.store_word_alone-load.new.self c.finish_on.new.self 0 (ask_here (hart_in c.args.self.now.trace.harts.items 0) (Store c.args.addr c.args.width c.args.value)) None c.store-reply.result c.store_word_alone-load.result
finished c =
    let n = c.finish_on.ensures in
    finished_here _ (accessed (goal.at.invariant_of-self c).After-store_word_alone-load) (record { harts = n.harts; holds = n.holds; caches = n.caches; finished = n.finished })

pub returns-clause-run : goal.returns-clause-run
returns-clause-run c run is =
    turned_run _ _ run (accessed (goal.at.returns-clause-run c).After-store_word_alone-load) (finished (goal.at.returns-clause-run c).After-finish_on) (c.store-reply.ensures.answer c.args.self.now.start.input.items).stands is

pub invariant_of-self : goal.invariant_of-self
invariant_of-self c =
    record { memory = c.store-reply.ensures.size ∙ c.args.self.now.memory; fits = turned_fits c.each_turn_moves_on.ensures _ (accessed (goal.at.invariant_of-self c).After-store_word_alone-load) (finished c) }

pub finish_on-requires-clause-can : goal.finish_on-requires-clause-can
finish_on-requires-clause-can c = may_finish_here c.each_turn_moves_on.ensures (accessed (goal.at.finish_on-requires-clause-can c).After-store_word_alone-load)

pub word_before-word-requires-clause-passes : goal.word_before-word-requires-clause-passes
word_before-word-requires-clause-passes c =
    let p = c.args.self.now in
    let h = hart_in p.trace.harts.items 0 in
    passes_of p.start.settings p.start.image h (ask_here h (Store c.args.addr c.args.width c.args.value)) c.requires.asks.orderly

pub store_word_alone-load-requires : goal.store_word_alone-load-requires
store_word_alone-load-requires c =
    may_access_alone c.each_turn_moves_on.ensures c.args.self.now (Store c.args.addr c.args.width c.args.value) c.index.result.now _ c.requires.asks c.requires.alone c.index.ensures (omega arith)

pub overflow_add-self : goal.overflow_add-self
overflow_add-self c = let p = c.args.self.now in omega (arith, few_turns p.start.settings p.turns _ p.fits.few p.fits.settings.limit_high p.fits.left)

pub finish_on-requires-clause-on : goal.finish_on-requires-clause-on
finish_on-requires-clause-on c = goes_on_here replies.Stored (accessed (goal.at.finish_on-requires-clause-on c).After-store_word_alone-load) c.store-reply.ensures.reply c.requires.on

pub returns-clause-one : goal.returns-clause-one
returns-clause-one c =
    turned_one _ replies.Stored (accessed (goal.at.returns-clause-one c).After-store_word_alone-load) (finished (goal.at.returns-clause-one c).After-finish_on) c.store-reply.ensures.reply c.requires.on refl refl
