use Rattle.joint_replay.proofs.Common.{◌≡◌, ◌+◌, ◌*◌, ◌/◌, ◌<◌, ◌^◌, ◌-◌, ◌∷◌, ap, sym, ◌∙◌, arith, word_at, known_from, Remembered}
use Rattle.joint_replay.proofs.WordLists.{from_address, one_unknown, one_known, none_after}
use Rattle.joint_replay.proofs.replay_memory.ReplayMemory.known_from.Goals as goal

pub loop-number-init : goal.loop-number-init
loop-number-init c =
    sym (ap (λ (m : Remembered). known_from c.args.from m.words) c.self.view_is)
    ∙ from_address c.self.inside.words.pages c.args.from c.first_word-number.result c.first_word-number.ensures.first c.first_word-number.ensures.bound

pub returns-in-Some : goal.returns-in-Some
returns-in-Some c =
    let same : 4 * c.loop-number.number / 4 ≡ c.loop-number.number = omega arith in
    let low : c.loop-number.number < 2 ^ 30 = omega (arith, c.loop-number-test.true, c.self.invariant.1) in
    one_known c.self.inside.words.pages (known_from c.args.from c.args.self.now.words) c.loop-number.number c.in-Some.word low
    (ap (word_at c.self.inside.words.pages) (sym same) ∙ sym c.get.ensures ∙ c.in-Some.is) c.loop-number.invariant
    ∙ ap (λ (m : Remembered). (4 * c.loop-number.number, c.in-Some.word) ∷ known_from (4 * c.loop-number.number + 4) m.words) c.self.view_is

pub loop-number-preserved : goal.loop-number-preserved
loop-number-preserved c =
    let same : 4 * c.loop-number.number / 4 ≡ c.loop-number.number = omega arith in
    let low : c.loop-number.number < 2 ^ 30 = omega (arith, c.loop-number-test.true, c.self.invariant.1) in
    one_unknown (word_at c.self.inside.words.pages) (known_from c.args.from c.args.self.now.words) c.loop-number.number low
    (ap (word_at c.self.inside.words.pages) (sym same) ∙ sym c.get.ensures ∙ c.in_default.is) c.loop-number.invariant

pub returns : goal.returns
returns c = c.loop-number.invariant ∙ none_after c.self.inside.words.pages c.self.inside.end c.loop-number.number (2 ^ 30 - c.loop-number.number) c.self.invariant.0 (omega (arith, c.loop-number-test.false))
