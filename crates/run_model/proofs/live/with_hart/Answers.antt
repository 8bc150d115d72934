use Rattle.run_model.proofs.Common.{◌∙◌, ◌+◌, ◌^◌, ◌<◌, ℕ, arith, sym, ap, subst, bit_or, has_bit}
use Rattle.run_model.proofs.LiveSets.{has_none, has_own, has_other, one_more, set_below, bit_of}
use Rattle.run_model.proofs.live.with_hart.Goals as goal

pub returns-then-live-clause-own : goal.returns-then-live-clause-own
returns-then-live-clause-own c =
    ap (λ (m : ℕ). has_bit (bit_or c.args.set m) c.args.number) (bit_of c.args.number c.requires.number)
    ∙ (has_own c.args.set c.args.number ∙ sym c.if-live.true)

pub returns-then-live-clause-others : goal.returns-then-live-clause-others
returns-then-live-clause-others c = λ k low.
    ap (λ (m : ℕ). has_bit (bit_or c.args.set m) k) (bit_of c.args.number c.requires.number)
    ∙ has_other c.args.set c.args.number k (λ e. omega (arith, e, low))

pub returns-then-live-clause-below : goal.returns-then-live-clause-below
returns-then-live-clause-below c =
    subst (λ (m : ℕ). bit_or c.args.set m < 2 ^ (c.args.number + 1)) (sym (bit_of c.args.number c.requires.number)) (set_below c.args.set c.args.number c.requires.below)

pub returns-else-live-clause-own : goal.returns-else-live-clause-own
returns-else-live-clause-own c = has_none c.args.set c.args.number c.requires.below ∙ sym c.if-live.false

pub returns-else-live-clause-below : goal.returns-else-live-clause-below
returns-else-live-clause-below c = omega (arith, c.requires.below, one_more c.args.number)
