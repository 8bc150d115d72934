use Rattle.step_debugger.proofs.Common.{◌≡◌, ℕ, suc, ◌+◌, ◌-◌, ◌<◌, sym, ap, ◌∙◌, arith, List, length, slice_get, Option, Some, None, stop_before, stop_below}
use Rattle.back_step.specs.declared.entry.Entry.{Entry}
use Rattle.step_debugger.specs.declared.stop.Stop.{Stop}
use Rattle.step_debugger.proofs.returns.stop_below.Goals as goal

module _ (breaks : List ℕ) (entries : List Entry) (passed at : ℕ) (low : passed < length entries) (is : at ≡ length entries - 1 - passed) (so_far : stop_below breaks entries (length entries) ≡ stop_below breaks entries (length entries - passed))
    (entry : Option Entry) (there : entry ≡ slice_get entries at) (stop : Option Stop) (told : stop ≡ stop_before breaks at entry) where
  opened : stop_below breaks entries (length entries) ≡ elim stop as (λ x. Option Stop) [ Some s ↦ Some s | None ↦ stop_below breaks entries at ]
  opened =
      let one : length entries - passed ≡ suc at = omega (arith, low, is) in
      so_far ∙ ap (stop_below breaks entries) one ∙ ap (λ (o : Option Stop). elim o as (λ x. Option Stop) [ Some s ↦ Some s | None ↦ stop_below breaks entries at ]) (ap (stop_before breaks at) (sym there) ∙ sym told)

  none_here : stop ≡ None → stop_below breaks entries (length entries) ≡ stop_below breaks entries (length entries - (passed + 1))
  none_here e =
      let one : at ≡ length entries - (passed + 1) = omega (arith, low, is) in
      opened ∙ ap (λ (o : Option Stop). elim o as (λ x. Option Stop) [ Some s ↦ Some s | None ↦ stop_below breaks entries at ]) e ∙ ap (stop_below breaks entries) one

pub loop-passed-preserved : goal.loop-passed-preserved
loop-passed-preserved c =
    let entries = c.args.trail.now.trace.entries in
    let low : c.loop-passed.passed < length entries = omega (arith, c.loop-passed-test.true, c.position-position.ensures) in
    let at : c.position-position.result - 1 - c.loop-passed.passed ≡ length entries - 1 - c.loop-passed.passed = ap (λ n. n - 1 - c.loop-passed.passed) c.position-position.ensures in
    none_here c.args.breaks.now entries c.loop-passed.passed (c.position-position.result - 1 - c.loop-passed.passed) low at c.loop-passed.invariant c.entry.result c.entry.ensures c.stop_before.result c.stop_before.ensures.stop c.in_default.is
