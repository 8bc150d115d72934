use Rattle.std.proofs.Common.{◌≡◌, ◌∙◌, ◌&&◌, ℕ, Bool, true, arith, ap, subst, sym}
use Rattle.race_log.specs.Sweep.{has_bit}
use Rattle.race_log.specs.Represents.{lasts}
use Rattle.base_tests.proofs.races.known_go.Goals as goal

pub one_step-requires-clause-lasting : goal.one_step-requires-clause-lasting
one_step-requires-clause-lasting c =
    let was : lasts c.store_and_load.new.shadow 0 ≡ true = subst (λ (set : ℕ). has_bit set 0 ≡ true) (sym c.store_and_load.ensures.lasting)
    (c.requires.lasting 0 (omega (arith, c.requires.harts))) in
    c.sweep-known.ensures.lasting 0 ∙ ap (λ (b : Bool). b && has_bit 3 0) was
