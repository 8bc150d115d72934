use Rattle.slice_back.proofs.Common.{◌≡◌, ℕ, zero, suc, false, get_or, refl, ap, is_some, replicate}
use Rattle.slice_back.proofs.live_set.LiveSet.new.Goals as goal

none_at : (n q : ℕ) → get_or (replicate n false) q false ≡ false
none_at zero q = refl
none_at (suc n) zero = refl
none_at (suc n) (suc q) = none_at n q

pub returns : goal.returns
returns c = record { registers = λ q less. none_at 32 q; words = λ k. ap is_some (c.new.ensures k) }
