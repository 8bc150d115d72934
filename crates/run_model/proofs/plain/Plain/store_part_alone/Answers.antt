use Rattle.run_model.proofs.Common.{Bool, true, false, Option, None, Some, Store, aligned, ap, arith, ask_here, hart_in, parts, refl, sym, ◌∙◌}
use Rattle.run_model.specs.Turn.{warmth}
use Rattle.first_load_bits.specs.declared.warm.Warm.{Warm}
use Rattle.rv_meaning.specs.declared.asks.Reply.TheVariants as replies
use Rattle.run_model.proofs.Asked.{few_turns}
use Rattle.run_model.proofs.OneTurn.{passes_of}
use Rattle.run_model.proofs.PlainTurns.{HasAccessed, HasFinished, finished_here, goes_on_here, may_access_alone, may_finish_here, stored, turned_fits, turned_one, turned_run}
use Rattle.run_model.proofs.plain.Plain.store_part_alone.Goals.{After-load_word_alone-answer, After-finish_load}
use Rattle.run_model.proofs.plain.Plain.store_part_alone.Goals as goal

accessed : (c : After-load_word_alone-answer)
    → HasAccessed (parts c.args.self.now) c.load_word_alone-answer.new.self 0 (ask_here (hart_in c.args.self.now.trace.harts.items 0) (Store c.args.addr c.args.width c.args.value)) None c.store-reply.result (Some c.load_word_alone-answer.result) c.word_before-word.result
accessed c =
    stored c.args.self.now _ _ _ _ c.index.result.now _ _ (Some c.load_word_alone-answer.result) _ c.requires.asks c.index.ensures c.store-reply.ensures.reply c.word_before-word.ensures
    (λ g events are. c.load_word_alone-answer.ensures.load g events are ∙ sym (ap (λ (b : Bool). elim b as (λ y. Option Warm) [ true ↦ None | false ↦ warmth g (Some (aligned c.args.addr)) (events 0) ]) c.requires.part))
    (λ loads. c.requires.part) c.load_word_alone-answer.ensures.accessed

finished : (c : After-finish_load)
    → HasFinished c.args.self.now.start.settings c.load_word_alone-answer.new.self c.finish_load.new.self 0 (ask_here (hart_in c.args.self.now.trace.harts.items 0) (Store c.args.addr c.args.width c.args.value)) None c.store-reply.result (Some c.load_word_alone-answer.result)
finished c =
    let n = c.finish_load.ensures in
    finished_here _ (accessed (goal.at.invariant_of-self c).After-load_word_alone-answer) (record { harts = n.harts; holds = n.holds; caches = n.caches; finished = n.finished })

pub returns-clause-run : goal.returns-clause-run
returns-clause-run c run is =
    turned_run _ _ run (accessed (goal.at.returns-clause-run c).After-load_word_alone-answer) (finished (goal.at.returns-clause-run c).After-finish_load) (c.store-reply.ensures.answer c.args.self.now.start.input.items).stands is

pub invariant_of-self : goal.invariant_of-self
invariant_of-self c =
    record { memory = c.store-reply.ensures.size ∙ c.args.self.now.memory; fits = turned_fits c.each_turn_moves_on.ensures _ (accessed (goal.at.invariant_of-self c).After-load_word_alone-answer) (finished c) }

pub finish_load-requires-clause-can : goal.finish_load-requires-clause-can
finish_load-requires-clause-can c = may_finish_here c.each_turn_moves_on.ensures (accessed (goal.at.finish_load-requires-clause-can c).After-load_word_alone-answer)

pub word_before-word-requires-clause-passes : goal.word_before-word-requires-clause-passes
word_before-word-requires-clause-passes c =
    let p = c.args.self.now in
    let h = hart_in p.trace.harts.items 0 in
    passes_of p.start.settings p.start.image h (ask_here h (Store c.args.addr c.args.width c.args.value)) c.requires.asks.orderly

pub load_word_alone-answer-requires : goal.load_word_alone-answer-requires
load_word_alone-answer-requires c =
    may_access_alone c.each_turn_moves_on.ensures c.args.self.now (Store c.args.addr c.args.width c.args.value) c.index.result.now _ c.requires.asks c.requires.alone c.index.ensures (omega arith)

pub overflow_add-self : goal.overflow_add-self
overflow_add-self c = let p = c.args.self.now in omega (arith, few_turns p.start.settings p.turns _ p.fits.few p.fits.settings.limit_high p.fits.left)

pub finish_load-requires-clause-on : goal.finish_load-requires-clause-on
finish_load-requires-clause-on c = goes_on_here replies.Stored (accessed (goal.at.finish_load-requires-clause-on c).After-load_word_alone-answer) c.store-reply.ensures.reply c.requires.on

pub returns-clause-one : goal.returns-clause-one
returns-clause-one c =
    turned_one _ replies.Stored (accessed (goal.at.returns-clause-one c).After-load_word_alone-answer) (finished (goal.at.returns-clause-one c).After-finish_load) c.store-reply.ensures.reply c.requires.on refl refl
