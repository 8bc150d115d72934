use Rattle.first_load_bits.proofs.Common.{◌≡◌, ◌==◌, ◌^◌, ◌∙◌, ℕ, true, false, ap, sym, refl, arith, Contents}
use Rattle.first_load_bits.proofs.cache.Cache.has_none_below.Goals as goal

pub returns : goal.returns
returns c =
    let none : c.self.inside.width_below ≡ 0 = ap (λ (x : Contents). x.geometry.ways2) c.self.view_is ∙ c.requires in
    let sets : c.args.self.now.geometry.sets2 ≡ 0 =
    sym (ap (λ (x : Contents). x.geometry.sets2) c.self.view_is) ∙ ap (λ (n : ℕ). elim (n == 0) as (λ b. ℕ) [ true ↦ 0 | false ↦ 2 ^ c.self.inside.set_bits_below.bits ]) none in
    record { same = refl; lines = λ k m. absurd (omega (arith, m, sets)) }
