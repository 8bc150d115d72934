use Rattle.joint_replay.proofs.Common.{ap, ◌∙◌, refl, arith, Some, forget, Remembered}
use Rattle.joint_replay.proofs.WordLists.{none_yet, one_more, all_gone, still_below}
use Rattle.joint_replay.proofs.replay_memory.ReplayMemory.forget.Goals as goal

pub loop-number-init : goal.loop-number-init
loop-number-init c = (none_yet c.args.first c.self.inside.words, refl, refl)

pub returns-clause-words : goal.returns-clause-words
returns-clause-words c =
    all_gone c.self.inside.words c.loop-number.self-inside.words c.args.first c.args.count c.last_word-last.result c.loop-number.number (omega (arith, c.ranges.first.fits)) c.last_word-last.ensures.end c.loop-number-test.false c.loop-number.auto.number-end c.loop-number.invariant.0
    ∙ ap (λ (m : Remembered). forget (Some (record { first = c.args.first; count = c.args.count })) m.words) c.self.view_is

pub loop-number-preserved : goal.loop-number-preserved
loop-number-preserved c = (one_more c.args.first c.loop-number.number c.self.inside.words c.loop-number.self-inside.words c.forget.new.self c.loop-number.auto.number c.loop-number.invariant.0 c.forget.ensures.word c.forget.ensures.room, c.loop-number.invariant.1, c.loop-number.invariant.2)

pub invariant_of-self : goal.invariant_of-self
invariant_of-self c =
    let i = c.loop-number.invariant in
    let below = still_below c.args.first c.loop-number.number c.self.inside.end c.loop-number.self-inside.end c.self.inside.words c.loop-number.self-inside.words i.1 i.0 (c.self.invariant.0, c.self.invariant.1) in
    (below.0, below.1, omega (arith, c.self.invariant.2, i.2, i.0.room))
