use Rattle.run_model.proofs.Common.{Load, None, Some, arith, ask_here, hart_in, parts}
use Rattle.rv_meaning.specs.declared.asks.Reply.TheVariants as replies
use Rattle.run_model.proofs.Asked.{few_turns}
use Rattle.run_model.proofs.OneTurn.{passes_of}
use Rattle.run_model.proofs.PlainTurns.{HasAccessed, HasFinished, finished_here, loaded, may_finish_here, turned_fits, turned_run}
use Rattle.run_model.proofs.plain.Plain.apply_load.Goals.{After-access_load-warm, After-finish_here}
use Rattle.run_model.proofs.plain.Plain.apply_load.Goals as goal

accessed : (c : After-access_load-warm)
    → HasAccessed (parts c.args.self.now) c.access_load-warm.new.self c.args.hart (ask_here (hart_in c.args.self.now.trace.harts.items c.args.hart) (Load c.args.addr c.args.width c.args.signed c.args.rd)) None (replies.Word c.word_before-word.result) (Some c.access_load-warm.result) c.word_before-word.result
accessed c =
    loaded c.args.self.now _ _ _ _ _ c.index.result.now _ _ _ (record { hart = c.requires.hart; live = c.requires.live; orderly = c.requires.orderly }) c.index.ensures c.word_before-word.ensures c.access_load-warm.ensures.load c.access_load-warm.ensures.accessed

finished : (c : After-finish_here)
    → HasFinished c.args.self.now.start.settings c.access_load-warm.new.self c.finish_here.new.self c.args.hart (ask_here (hart_in c.args.self.now.trace.harts.items c.args.hart) (Load c.args.addr c.args.width c.args.signed c.args.rd)) None (replies.Word c.word_before-word.result) (Some c.access_load-warm.result)
finished c =
    let n = c.finish_here.ensures in
    finished_here _ (accessed (goal.at.invariant_of-self c).After-access_load-warm) (record { harts = n.harts; holds = n.holds; caches = n.caches; finished = n.finished })

pub returns-clause-run : goal.returns-clause-run
returns-clause-run c run is =
    turned_run _ _ run (accessed (goal.at.returns-clause-run c).After-access_load-warm) (finished (goal.at.returns-clause-run c).After-finish_here) (λ m stands. stands) is

pub invariant_of-self : goal.invariant_of-self
invariant_of-self c =
    record { memory = c.args.self.now.memory; fits = turned_fits c.each_turn_moves_on.ensures _ (accessed (goal.at.invariant_of-self c).After-access_load-warm) (finished c) }

pub finish_here-requires : goal.finish_here-requires
finish_here-requires c = may_finish_here c.each_turn_moves_on.ensures (accessed (goal.at.finish_here-requires c).After-access_load-warm)

pub word_before-word-requires-clause-passes : goal.word_before-word-requires-clause-passes
word_before-word-requires-clause-passes c =
    let p = c.args.self.now in
    let h = hart_in p.trace.harts.items c.args.hart in
    passes_of p.start.settings p.start.image h (ask_here h (Load c.args.addr c.args.width c.args.signed c.args.rd)) c.requires.orderly

pub overflow_add-self : goal.overflow_add-self
overflow_add-self c = let p = c.args.self.now in omega (arith, few_turns p.start.settings p.turns _ p.fits.few p.fits.settings.limit_high p.fits.left)
