use Rattle.race_log.proofs.Common.{◌≡◌, ◌∙◌, ◌+◌, ◌*◌, ◌<◌, arith, ap, sym, subst, length, inl, inr, vec_len, cases_eq, word_in, uncovered, sum_below}
use Rattle.race_log.proofs.BoolFacts.{same_number, other_number}
use Rattle.race_log.proofs.PageLemmas.{places_apart}
use Rattle.race_log.proofs.SweepLemmas.{none_uncovered, sum_step}
use Rattle.race_log.proofs.sweep.give_up_page.Goals as goal

pub returns-then-is_empty-clause-kept : goal.returns-then-is_empty-clause-kept
returns-then-is_empty-clause-kept c = λ counts n low.
    none_uncovered c.args.known.now counts c.args.harts c.args.page.now.items (n * (c.args.harts + 1))
    (omega (arith, same_number (vec_len c.args.page.now) 0 (sym c.is_empty.ensures ∙ c.if-is_empty.true), c.args.page.now.ok))

pub give_up_word-gone-requires-clause-within : goal.give_up_word-gone-requires-clause-within
give_up_word-gone-requires-clause-within c =
    let within = places_apart c.loop-word.word 64 c.args.harts c.loop-word-test.true in
    let some = other_number (vec_len c.args.page.now) 0 (sym c.is_empty.ensures ∙ c.if-is_empty.false) in
    let full = c.requires.full (omega (arith, some)) in
    omega (arith, within, full, c.args.page.now.ok, c.loop-word.page.ok, c.loop-word.invariant.len)

pub loop-word-preserved : goal.loop-word-preserved
loop-word-preserved c =
    let i = c.loop-word.invariant in
    let e = c.give_up_word-gone.ensures in
    let old = c.args.page.now.items in
    let mid = c.loop-word.page.items in
    let new = c.give_up_word-gone.new.page.items in
    let h = c.args.harts in
    let k = c.loop-word.word in
    record {
      len = e.len ∙ i.len;
      few = omega (arith, e.few, i.few, c.requires.harts);
      done = λ counts n low. elim (cases_eq n k) [
        | inl same ↦
            subst (λ m. word_in counts h new (m * (h + 1)) ≡ uncovered c.args.known.now (word_in counts h old (m * (h + 1)))) (sym same)
            ((e.kept counts).left ∙ ap (uncovered c.args.known.now) (i.left counts k (omega arith)))
        | inr apart ↦
            let below : n < k = omega (arith, low, apart) in
            e.below counts (n * (h + 1)) (places_apart n k h below) ∙ i.done counts n below
      ];
      left = λ counts n high. e.above counts (n * (h + 1)) (places_apart k n h (omega (arith, high))) ∙ i.left counts n (omega (arith, high));
      gone = λ counts. sum_step (λ n. length (word_in counts h old (n * (h + 1)))) (λ n. length (word_in counts h mid (n * (h + 1)))) (λ n. length (word_in counts h new (n * (h + 1)))) k
          c.loop-word.gone c.give_up_word-gone.result (i.gone counts) ((e.kept counts).gone ∙ ap length (i.left counts k (omega arith)))
          (λ n below. ap length (e.below counts (n * (h + 1)) (places_apart n k h below)));
      settled = λ table next zero own all. e.settled table next zero own (i.settled table next zero own all);
    }

pub returns-clause-gone : goal.returns-clause-gone
returns-clause-gone c = λ counts.
    let all : c.loop-word.word ≡ 64 = omega (arith, c.loop-word-test.false, c.loop-word.auto.word-end) in
    let h = c.args.harts in
    subst (λ k. c.loop-word.gone + sum_below (λ n. length (word_in counts h c.loop-word.page.items (n * (h + 1)))) k
    ≡ sum_below (λ n. length (word_in counts h c.args.page.now.items (n * (h + 1)))) k) all (c.loop-word.invariant.gone counts)
