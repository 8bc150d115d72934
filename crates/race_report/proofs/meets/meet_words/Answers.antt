use Rattle.race_report.proofs.Common.{◌∙◌, ℕ, ◌+◌, ◌-◌, ◌%◌, ap, sym, List, count_of, Meeting, words_from, met_words, lists_of}
use Rattle.race_report.proofs.Walking.{words_next, next_aligned}
use Rattle.race_report.proofs.meets.meet_words.Goals as goal

pub loop-preserved : goal.loop-preserved
loop-preserved c = record {
  aligned = next_aligned c.loop.word c.loop.invariant.aligned;
  same = c.meet_word.ensures.same ∙ c.loop.invariant.same;
  met = λ places tracked.
      let counts = count_of c.args.point.now.known in
      ap (λ (ls : List (List Meeting)). met_words c.args.point.now.place c.args.point.now.hart counts places c.args.harts (words_from ((c.loop.word + 4) % 4294967296) (c.args.touch.count - (c.loop.counter + 1))) ls)
      (c.in_ok-meet_word.ensures.met (λ g. places g c.loop.word) (λ g. tracked g c.loop.word c.loop.invariant.aligned))
      ∙ ap (λ (ws : List ℕ). met_words c.args.point.now.place c.args.point.now.hart counts places c.args.harts ws (lists_of c.loop.found)) (sym (words_next c.loop.word c.args.touch.count c.loop.counter c.loop-test.true))
      ∙ c.loop.invariant.met places tracked;
}
