use Rattle.std.proofs.Common.{sym, subst}
use Rattle.guest_gen.specs.Code.{opening, IsCode}
use Rattle.guest_gen.proofs.Table.{slli_code, add_code}
use Rattle.guest_gen.proofs.Bytes.{three}
use Rattle.guest_gen.proofs.building.push_opening.Goals as goal

pub push-requires-2 : goal.push-requires-2
push-requires-2 c = subst (λ i. IsCode i) (sym c.with_immediate-2.ensures) slli_code

pub push-requires-3 : goal.push-requires-3
push-requires-3 c = subst (λ i. IsCode i) (sym c.of_registers.ensures) add_code

pub returns : goal.returns
unfolding opening
returns c = three _ _ _ _ _ _ _ _ _ _ c.with_immediate.ensures c.with_immediate-2.ensures c.of_registers.ensures c.in_ok-push.ensures c.in_ok-push-2.ensures c.in_ok-push-3.ensures
