use Rattle.run_model.proofs.Common.{◌≡◌, ◌==◌, cond, true, unless}
use Rattle.run_model.proofs.EachHart.{Changed}
use Rattle.run_model.proofs.machine.reservations.Reservations.end_others.Given as goal

abbrev pub invariant-loop-k : goal.invariant-loop-k
invariant-loop-k l =
    Changed (λ k own. cond (k == l.hart) own (unless (λ b. b == l.addr) own)) l.k l.fn.self l.self-inside.of
    × (l.self-inside.made ≡ true)
