-- What the fields of a cache say of its second level.
use Rattle.first_load_bits.proofs.Common.{◌≡◌, ◌≢◌, ◌<◌, ◌==◌, ℕ, false, arith, pow_pos, refl, eq-eqb, ne_eqb, contents, sets_below}
use Rattle.first_load_bits.specs.declared.cache.Cache.TheInside.{Inside}
use Rattle.first_load_bits.proofs.Both.{HasSets}

pub has_sets : (c : Inside) → HasSets (contents c)
has_sets c some = let e : (c.width_below == 0) ≡ false = ne_eqb c.width_below 0 (λ q. omega (arith, q, some)) in rw (e, sets_below) (pow_pos c.set_bits_below.bits)

pub no_sets : (c : Inside) → c.width_below ≡ 0 → (contents c).geometry.sets2 ≡ 0
no_sets c h = rw (eq-eqb c.width_below 0 h, sets_below) refl

pub has_ways : (n : ℕ) → n ≢ 0 → 0 < n
has_ways n d = omega (arith, d)
