use Rattle.hart_replay.proofs.Common.{ap, ◌∙◌, Frame, word_in}
use Rattle.hart_replay.proofs.Marks.{word_in-cleared}
use Rattle.hart_replay.proofs.page.WordPage.forget.Goals as goal

pub returns : goal.returns
returns c k below = ap (λ (f : Frame). word_in f k) c.clear.ensures ∙ word_in-cleared c.args.self.now c.args.place k c.requires below
