use Rattle.race_report.proofs.Common.{◌∙◌, ap, length, arith, List, Known, head_at}
use Rattle.race_report.proofs.Prefixes.{length_more}
use Rattle.race_report.proofs.Tracking.{head_more}
use Rattle.race_report.proofs.track.Track.new.Goals as goal

pub loop-preserved : goal.loop-preserved
loop-preserved c =
    let heads = c.loop.heads.items in
    let more = length_more heads c.new.result in
    let is = ap length c.in_ok-push.ensures.items in
    record {
      count = omega (arith, is, more, c.loop.invariant.count);
      none = λ h w. ap (λ (ks : List Known). head_at ks h w) c.in_ok-push.ensures.items ∙ head_more heads c.new.result c.loop.invariant.none c.new.ensures h w;
    }
