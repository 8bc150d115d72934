use Rattle.std.proofs.Common.{◌/◌, ◌^◌, ◌-◌, ◌∙◌, ap, sym, subst, arith, map, ◌+◌, ◌++◌, ◌≡◌}
use Rattle.guest_gen.specs.Code.{draws, slot}
use Rattle.guest_gen.specs.File.{code_bytes}
use Rattle.guest_gen.proofs.Bytes.{one_drawn, all_drawn}
use Rattle.guest_gen.proofs.building.push_slots.Goals as goal

pub loop-preserved : goal.loop-preserved
loop-preserved c =
    subst (λ s. c.push.new.out.items ++ code_bytes (map slot (draws (256 - (c.loop.counter + 1)) s)) ≡ c.args.out.now.items ++ code_bytes (map slot (draws 256 c.args.seed))) (sym c.next-drawn.ensures)
    (one_drawn c.loop.counter c.loop.state _ _ _ _ (omega (arith, c.loop-test.true)) (c.slot.ensures.value ∙ ap (λ s. slot (s / 2 ^ 33)) c.next-drawn.ensures) c.in_ok-push.ensures c.loop.invariant)

pub returns : goal.returns
returns c = all_drawn c.loop.counter c.loop.state _ _ (omega (arith, c.loop-test.false)) c.loop.invariant
