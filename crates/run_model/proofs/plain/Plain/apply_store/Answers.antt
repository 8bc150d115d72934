use Rattle.run_model.proofs.Common.{None, Store, arith, ask_here, hart_in, parts, ◌∙◌}
use Rattle.run_model.proofs.Asked.{few_turns}
use Rattle.run_model.proofs.OneTurn.{passes_of}
use Rattle.run_model.proofs.PlainTurns.{HasAccessed, HasFinished, finished_here, may_finish_here, stored, turned_fits, turned_run}
use Rattle.run_model.proofs.plain.Plain.apply_store.Goals.{After-access_store-load, After-finish_here}
use Rattle.run_model.proofs.plain.Plain.apply_store.Goals as goal

accessed : (c : After-access_store-load)
    → HasAccessed (parts c.args.self.now) c.access_store-load.new.self c.args.hart (ask_here (hart_in c.args.self.now.trace.harts.items c.args.hart) (Store c.args.addr c.args.width c.args.value)) None c.store-reply.result c.access_store-load.result c.word_before-word.result
accessed c =
    stored c.args.self.now _ _ _ _ c.index.result.now _ _ _ _ (record { hart = c.requires.hart; live = c.requires.live; orderly = c.requires.orderly }) c.index.ensures c.store-reply.ensures.reply c.word_before-word.ensures c.access_store-load.ensures.load c.access_store-load.ensures.loading c.access_store-load.ensures.accessed

finished : (c : After-finish_here)
    → HasFinished c.args.self.now.start.settings c.access_store-load.new.self c.finish_here.new.self c.args.hart (ask_here (hart_in c.args.self.now.trace.harts.items c.args.hart) (Store c.args.addr c.args.width c.args.value)) None c.store-reply.result c.access_store-load.result
finished c =
    let n = c.finish_here.ensures in
    finished_here _ (accessed (goal.at.invariant_of-self c).After-access_store-load) (record { harts = n.harts; holds = n.holds; caches = n.caches; finished = n.finished })

pub returns-clause-run : goal.returns-clause-run
returns-clause-run c run is =
    turned_run _ _ run (accessed (goal.at.returns-clause-run c).After-access_store-load) (finished (goal.at.returns-clause-run c).After-finish_here) (c.store-reply.ensures.answer c.args.self.now.start.input.items).stands is

pub invariant_of-self : goal.invariant_of-self
invariant_of-self c =
    record { memory = c.store-reply.ensures.size ∙ c.args.self.now.memory; fits = turned_fits c.each_turn_moves_on.ensures _ (accessed (goal.at.invariant_of-self c).After-access_store-load) (finished c) }

pub finish_here-requires : goal.finish_here-requires
finish_here-requires c = may_finish_here c.each_turn_moves_on.ensures (accessed (goal.at.finish_here-requires c).After-access_store-load)

pub word_before-word-requires-clause-passes : goal.word_before-word-requires-clause-passes
word_before-word-requires-clause-passes c =
    let p = c.args.self.now in
    let h = hart_in p.trace.harts.items c.args.hart in
    passes_of p.start.settings p.start.image h (ask_here h (Store c.args.addr c.args.width c.args.value)) c.requires.orderly

pub overflow_add-self : goal.overflow_add-self
overflow_add-self c = let p = c.args.self.now in omega (arith, few_turns p.start.settings p.turns _ p.fits.few p.fits.settings.limit_high p.fits.left)
