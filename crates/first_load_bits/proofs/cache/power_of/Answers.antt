use Rattle.std.proofs.Common.{arith}
use Rattle.first_load_bits.proofs.Standing.{exact_power, power_low}
use Rattle.first_load_bits.proofs.cache.power_of.Goals as goal

pub returns-in-Some-clause-few : goal.returns-in-Some-clause-few
returns-in-Some-clause-few c = power_low 12 c.in-Some.power (let p = c.in-Some.ensures.power_le in omega (arith, p, c.requires))

pub returns-in-Some-clause-power : goal.returns-in-Some-clause-power
returns-in-Some-clause-power c = λ some power. exact_power c.args.sets c.in-Some.power power c.in-Some.ensures.power_le c.in-Some.ensures.next_power_gt
