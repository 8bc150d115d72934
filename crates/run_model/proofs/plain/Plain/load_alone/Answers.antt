use Rattle.run_model.proofs.Common.{Load, None, Some, arith, ask_here, hart_in, parts, refl}
use Rattle.rv_meaning.specs.declared.asks.Reply.TheVariants as replies
use Rattle.run_model.proofs.Asked.{few_turns}
use Rattle.run_model.proofs.OneTurn.{passes_of}
use Rattle.run_model.proofs.PlainTurns.{HasAccessed, HasFinished, finished_here, goes_on_here, loaded, may_access_alone, may_finish_here, turned_fits, turned_one, turned_run}
use Rattle.run_model.proofs.plain.Plain.load_alone.Goals.{After-load_word_alone-warm, After-finish_load}
use Rattle.run_model.proofs.plain.Plain.load_alone.Goals as goal

accessed : (c : After-load_word_alone-warm)
    → HasAccessed (parts c.args.self.now) c.load_word_alone-warm.new.self 0 (ask_here (hart_in c.args.self.now.trace.harts.items 0) (Load c.args.addr c.args.width c.args.signed c.args.rd)) None (replies.Word c.word_before-word.result) (Some c.load_word_alone-warm.result) c.word_before-word.result
accessed c =
    loaded c.args.self.now _ _ _ _ _ c.index.result.now _ _ _ c.requires.asks c.index.ensures c.word_before-word.ensures c.load_word_alone-warm.ensures.load c.load_word_alone-warm.ensures.accessed

finished : (c : After-finish_load)
    → HasFinished c.args.self.now.start.settings c.load_word_alone-warm.new.self c.finish_load.new.self 0 (ask_here (hart_in c.args.self.now.trace.harts.items 0) (Load c.args.addr c.args.width c.args.signed c.args.rd)) None (replies.Word c.word_before-word.result) (Some c.load_word_alone-warm.result)
finished c =
    let n = c.finish_load.ensures in
    finished_here _ (accessed (goal.at.invariant_of-self c).After-load_word_alone-warm) (record { harts = n.harts; holds = n.holds; caches = n.caches; finished = n.finished })

pub returns-clause-run : goal.returns-clause-run
returns-clause-run c run is =
    turned_run _ _ run (accessed (goal.at.returns-clause-run c).After-load_word_alone-warm) (finished (goal.at.returns-clause-run c).After-finish_load) (λ m stands. stands) is

pub invariant_of-self : goal.invariant_of-self
invariant_of-self c =
    record { memory = c.args.self.now.memory; fits = turned_fits c.each_turn_moves_on.ensures _ (accessed (goal.at.invariant_of-self c).After-load_word_alone-warm) (finished c) }

pub finish_load-requires-clause-can : goal.finish_load-requires-clause-can
finish_load-requires-clause-can c = may_finish_here c.each_turn_moves_on.ensures (accessed (goal.at.finish_load-requires-clause-can c).After-load_word_alone-warm)

pub word_before-word-requires-clause-passes : goal.word_before-word-requires-clause-passes
word_before-word-requires-clause-passes c =
    let p = c.args.self.now in
    let h = hart_in p.trace.harts.items 0 in
    passes_of p.start.settings p.start.image h (ask_here h (Load c.args.addr c.args.width c.args.signed c.args.rd)) c.requires.asks.orderly

pub load_word_alone-warm-requires : goal.load_word_alone-warm-requires
load_word_alone-warm-requires c =
    may_access_alone c.each_turn_moves_on.ensures c.args.self.now (Load c.args.addr c.args.width c.args.signed c.args.rd) c.index.result.now _ c.requires.asks c.requires.alone c.index.ensures (omega arith)

pub overflow_add-self : goal.overflow_add-self
overflow_add-self c = let p = c.args.self.now in omega (arith, few_turns p.start.settings p.turns _ p.fits.few p.fits.settings.limit_high p.fits.left)

pub finish_load-requires-clause-on : goal.finish_load-requires-clause-on
finish_load-requires-clause-on c = goes_on_here (replies.Word c.word_before-word.result) (accessed (goal.at.finish_load-requires-clause-on c).After-load_word_alone-warm) refl c.requires.on

pub returns-clause-one : goal.returns-clause-one
returns-clause-one c =
    turned_one _ (replies.Word c.word_before-word.result) (accessed (goal.at.returns-clause-one c).After-load_word_alone-warm) (finished (goal.at.returns-clause-one c).After-finish_load) refl c.requires.on refl refl
