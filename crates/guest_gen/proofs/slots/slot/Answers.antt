use Rattle.std.proofs.Common.{sym, subst}
use Rattle.guest_gen.specs.Code.{IsCode}
use Rattle.guest_gen.proofs.Table.{slot_code}
use Rattle.guest_gen.proofs.slots.slot.Goals as goal

pub returns-clause-code : goal.returns-clause-code
returns-clause-code c = subst (λ i. IsCode i) (sym c.chosen.ensures) (slot_code c.args.drawn)
