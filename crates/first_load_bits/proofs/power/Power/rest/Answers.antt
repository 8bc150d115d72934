use Rattle.first_load_bits.proofs.Common.{◌≡◌, ◌-◌, ◌^◌, ◌∙◌, ap, arith, bit_and, and_mask}
use Rattle.first_load_bits.proofs.power.Power.rest.Goals as goal

pub returns : goal.returns
returns c =
    let p = c.args.self.now in
    let mask : p.mask ≡ 2 ^ p.bits - 1 = omega (arith, p.below) in
    ap (bit_and c.args.number) mask ∙ and_mask c.args.number p.bits
