use Rattle.first_load_bits.proofs.Common.{◌≡◌, ◌/◌, ◌%◌, ◌^◌, ◌<◌, ◌≤◌, subst, arith, pow_pos, pow_mono, mod_below, place_of, Contents}
use Rattle.first_load_bits.proofs.cache.Cache.place_of.Goals as goal

pub returns-clause-value : goal.returns-clause-value
returns-clause-value c = subst (λ (x : Contents). c.rest.result ≡ place_of x.geometry c.args.addr) c.self.view_is c.rest.ensures

pub returns-clause-within : goal.returns-clause-within
returns-clause-within c =
    let k = c.self.inside.word_bits.bits in
    let low : 2 ^ k ≤ 2 ^ 4 = pow_mono c.self.invariant.words in
    let below : c.args.addr / 4 % 2 ^ k < 2 ^ k = mod_below (c.args.addr / 4) (2 ^ k) (pow_pos k) in
    omega (arith, c.rest.ensures, low, below)
