use Rattle.race_log.proofs.Common.{◌≡◌, ◌∙◌, ◌+◌, ◌*◌, arith, sym, subst, length, word_in, sum_below}
use Rattle.race_log.proofs.BoolFacts.{same_number}
use Rattle.race_log.proofs.PageLemmas.{places_apart}
use Rattle.race_log.proofs.SweepLemmas.{sum_next, sum_none}
use Rattle.race_log.proofs.HeldLemmas.{none_held}
use Rattle.race_log.proofs.sweep.held_page.Goals as goal

pub returns-then-is_empty-clause-held : goal.returns-then-is_empty-clause-held
returns-then-is_empty-clause-held c = λ counts. sym (none_held counts c.args.harts c.args.page.now 64 (same_number (length c.args.page.now) 0 (sym c.is_empty.ensures ∙ c.if-is_empty.true)))

pub loop-word-init : goal.loop-word-init
loop-word-init c = record { held = λ counts. sym (sum_none (λ n. length (word_in counts c.args.harts c.args.page.now (n * (c.args.harts + 1))))); few = omega arith }

pub held_word-held-requires : goal.held_word-held-requires
held_word-held-requires c =
    let within = places_apart c.loop-word.word 64 c.args.harts c.loop-word-test.true in
    omega (arith, within, c.requires)

pub loop-word-preserved : goal.loop-word-preserved
loop-word-preserved c =
    let i = c.loop-word.invariant in
    record {
      held = λ counts.
          let next = sum_next (λ n. length (word_in counts c.args.harts c.args.page.now (n * (c.args.harts + 1)))) c.loop-word.word in
          omega (arith, next, i.held counts, c.held_word-held.ensures.held counts);
      few = omega (arith, i.few, c.held_word-held.ensures.few, c.requires);
    }

pub returns-clause-held : goal.returns-clause-held
returns-clause-held c = λ counts.
    let all : c.loop-word.word ≡ 64 = omega (arith, c.loop-word-test.false, c.loop-word.auto.word-end) in
    subst (λ k. c.loop-word.held ≡ sum_below (λ n. length (word_in counts c.args.harts c.args.page.now (n * (c.args.harts + 1)))) k) all (c.loop-word.invariant.held counts)
