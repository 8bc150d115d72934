use Rattle.std.proofs.Common.{sym, subst}
use Rattle.guest_gen.specs.Code.{IsCode}
use Rattle.guest_gen.proofs.Table.{closing_code}
use Rattle.guest_gen.proofs.Bytes.{whole_file}
use Rattle.guest_gen.proofs.building.guest.Goals as goal

pub push-requires : goal.push-requires
push-requires c = subst (λ i. IsCode i) (sym c.closing.ensures) (closing_code _)

pub returns : goal.returns
returns c = whole_file c.args.seed c.args.kind _ _ _ _ _ c.in_ok-bytes.ensures c.in_ok-push_opening.ensures c.in_ok-push_slots.ensures c.closing.ensures c.in_ok-push.ensures
