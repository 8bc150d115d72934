use Rattle.race_log.proofs.Common.{◌≡◌, ◌∙◌, ℕ, Option, Some, None, arith, subst, sym, epoch_of}
use Rattle.race_log.proofs.NewLemmas.{AllZero, zero_none, zero_more, zero_at, stands_none}
use Rattle.race_log.proofs.Swept.{all_have}
use Rattle.race_log.proofs.shadow.Shadow.new.Goals as goal

pub loop-init : goal.loop-init
loop-init c = record {
  zeros = subst AllZero (sym c.new-times.ensures.items) zero_none;
  size = c.new-times.ensures.len;
}

pub loop-preserved : goal.loop-preserved
loop-preserved c = record {
  zeros = subst AllZero (sym c.in_ok-push.ensures.items) (zero_more c.loop.times.items c.new.result c.loop.invariant.zeros c.new.ensures);
  size = omega (arith, c.in_ok-push.ensures.len, c.loop.invariant.size);
}

pub returns-clause-counts : goal.returns-clause-counts
returns-clause-counts c = λ h. zero_at c.loop.times.items h h c.loop.invariant.zeros

pub invariant_of-result : goal.invariant_of-result
invariant_of-result c = record {
  same_harts = c.in_ok-new.ensures.harts;
  some_hart = omega (arith, c.harts-harts.ensures.low);
  few_harts = omega (arith, c.harts-harts.ensures.room);
  each_hart = omega (arith, c.loop.invariant.size, c.loop-test.false, c.loop.auto.counter-end);
  present = λ g h low apart. c.in_ok-new.ensures.counts (epoch_of c.in_ok-new.field-0.epochs g) h ∙ sym (zero_at c.loop.times.items g h c.loop.invariant.zeros);
  room = λ r is. absurd (none is);
}
  where
    none : {r : ℕ × ℕ} → ◌≡◌ {A = Option (ℕ × ℕ)} None (Some r) → ⊥
    none e = cc

pub returns-clause-stands : goal.returns-clause-stands
returns-clause-stands c = stands_none _ (λ h g. zero_at c.loop.times.items h g c.loop.invariant.zeros) c.in_ok-new.ensures.none

pub returns-clause-lasting : goal.returns-clause-lasting
returns-clause-lasting c = λ h low. all_have h (omega (arith, low, c.harts-harts.ensures.room))
