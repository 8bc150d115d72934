use Rattle.hart_replay.proofs.Common.{ap, ◌∙◌, arith, Frame, word_in}
use Rattle.hart_replay.proofs.Marks.{word_in-marked}
use Rattle.hart_replay.proofs.page.WordPage.put.Goals as goal

pub returns : goal.returns
returns c k = ap (λ (f : Frame). word_in f k) c.mark.ensures.value ∙ word_in-marked c.args.self.now c.args.place c.args.word k (omega (arith, c.mark.ensures.count))
