use Rattle.race_report.proofs.Common.{◌∙◌, ℕ, ap, sym, List, noted, noted_one}
use Rattle.race_report.proofs.Walking.{words_next, next_aligned}
use Rattle.race_report.proofs.meets.note_words.Goals as goal

pub returns-in_err-note-clause-below : goal.returns-in_err-note-clause-below
returns-in_err-note-clause-below c = λ count low b. c.note.ensures.below count low (c.loop.invariant.below count low b)

pub loop-preserved : goal.loop-preserved
loop-preserved c = record {
  aligned = next_aligned c.loop.word c.loop.invariant.aligned;
  harts = c.note.ensures.harts ∙ c.loop.invariant.harts;
  below = λ count low b. c.note.ensures.below count low (c.loop.invariant.below count low b);
  noted = λ h w ps low t.
      let old = c.loop.invariant.noted h w ps low t in (
        noted_one h w c.args.hart c.args.place c.loop.word old.0,
        c.in_ok-note.ensures.noted h w old.0 old.1,
        ap (λ (ws : List ℕ). noted h w c.args.hart c.args.place ws old.0) (sym (words_next c.loop.word c.args.touch.count c.loop.counter c.loop-test.true)) ∙ old.2,
      );
}
