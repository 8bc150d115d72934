use Rattle.step_debugger.proofs.Common.{arith, ◌+◌, sym, ap, ◌∙◌, drop, get_or, drop_more}
use Rattle.step_debugger.proofs.Digits.{more, one_more, bounded, seven, eight, product_fits}
use Rattle.step_debugger.proofs.numbers.number_in.Goals as goal

pub overflow_mul-number : goal.overflow_mul-number
overflow_mul-number c = rw c.from.ensures (omega (arith, product_fits c.args.base c.loop-place.number c.in_ok-digit.digit c.requires.base c.in_ok-digit.ensures.bound (seven c.loop-place.number c.loop-place.place (omega (arith, c.loop-place-test.true, c.requires.length)) c.loop-place.invariant.small)))

pub overflow_add-number : goal.overflow_add-number
overflow_add-number c = rw (c.from.ensures, c.from-in-loop-place.ensures) (omega (arith, product_fits c.args.base c.loop-place.number c.in_ok-digit.digit c.requires.base c.in_ok-digit.ensures.bound (seven c.loop-place.number c.loop-place.place (omega (arith, c.loop-place-test.true, c.requires.length)) c.loop-place.invariant.small)))

pub loop-place-preserved : goal.loop-place-preserved
loop-place-preserved c = rw (c.from.ensures, c.from-in-loop-place.ensures) (record {
  spells = sym (one_more c.args.base c.loop-place.number c.in_ok-digit.digit (get_or c.args.text.now c.loop-place.place 0) (drop (c.loop-place.place + 1) c.args.text.now) c.in_ok-digit.ensures.value)
      ∙ ap (more c.args.base c.loop-place.number) (sym (drop_more c.args.text.now c.loop-place.place 0 c.loop-place-test.true)) ∙ c.loop-place.invariant.spells;
  small = bounded c.args.base c.loop-place.number c.in_ok-digit.digit c.loop-place.place c.requires.base (omega (arith, c.loop-place-test.true, c.requires.length)) c.in_ok-digit.ensures.bound c.loop-place.invariant.small;
})

pub overflow_cast-result : goal.overflow_cast-result
overflow_cast-result c = omega (arith, eight c.loop-place.number c.loop-place.place (omega (arith, c.loop-place.auto.place-end, c.requires.length)) c.loop-place.invariant.small)
