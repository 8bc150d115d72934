use Rattle.std.proofs.Common.{◌≡◌, ◌<◌}
use Rattle.race_log.proofs.CountLaws.{pair_at, earlier_at, turn_earlier}
use Rattle.race_log.proofs.laws.points_stand_by_counts.Goals as goal

pub returns : goal.returns
returns c = record {
  counts = λ run up m n p q e f hart. (λ low. pair_at (λ p q. p.hart ≡ q.hart → p.count < q.count) run m n p q up.counts low e f hart, λ less. earlier_at run up m n p q e f hart less);
  turns = λ run up m n p q e f. (λ low. pair_at (λ p q. p.turn < q.turn) run m n p q up.turns low e f, λ less. turn_earlier run up m n p q e f less);
}
