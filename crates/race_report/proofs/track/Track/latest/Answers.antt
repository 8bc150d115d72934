use Rattle.std.proofs.Common.{◌∙◌, sym, ◌<◌, ℕ, length}
use Rattle.race_report.proofs.Tracking.{if_some, head_is}
use Rattle.race_report.proofs.track.Track.latest.Goals as goal

pub returns-clause-there : goal.returns-clause-there
returns-clause-there c =
    let t = c.args.self.now in
    if_some (λ (k : ℕ). k < length t.entries.items) c.get.result
    (λ k e. t.linked.heads_there c.args.hart c.args.word k (sym (head_is t.heads.items c.args.hart c.args.word c.index.result.now c.requires c.index.ensures) ∙ sym c.get.ensures ∙ e))
