use Rattle.hart_replay.proofs.Common.{◌≡◌, ℕ, zero, suc, Bool, true, false, ◌==◌, Some, get_or, replicate, refl, place_in}
use Rattle.hart_replay.proofs.level.Node.new.Goals as goal

zero_at : (n k : ℕ) → get_or {A = ℕ} (replicate n 0) k 0 ≡ 0
zero_at zero k = refl
zero_at (suc n) zero = refl
zero_at (suc n) (suc k) = zero_at n k

by_part : (x : Bool) (n : ℕ) → n ≡ 0 → elim x as (λ y. ℕ) [ true ↦ n | false ↦ 0 ] ≡ 0
by_part true n e = e
by_part false n e = refl

-- a node of zeros has the place 0 for each part
zero_place : (part p at : ℕ) → place_in (Some (record { part = part; places = replicate 256 0 })) p at ≡ 0
zero_place part p at = by_part (part == p) (get_or (replicate 256 0) at 0) (zero_at 256 at)

pub returns-clause-places : goal.returns-clause-places
returns-clause-places c = λ p at. zero_place c.args.part p at
