use Rattle.run_model.proofs.Common.{◌≡◌, true, unless, is_among}
use Rattle.run_model.proofs.EachHart.{Changed}
use Rattle.run_model.proofs.machine.reservations.Reservations.end_among.Given as goal

abbrev pub invariant-loop-k : goal.invariant-loop-k
invariant-loop-k l =
    Changed (λ k own. unless (is_among l.first l.count) own) l.k l.fn.self l.self-inside.of
    × (l.self-inside.made ≡ true)
