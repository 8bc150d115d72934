-- A loop over the harts' reservations.
use Rattle.run_model.proofs.Common.{◌≡◌, ℕ, ◌<◌, ◌≤◌, List, length, get_or, Option, None, Bool, true, false}

-- the reservations of the harts below k are changed by g, and the others are as they were
pub record Changed (g : ℕ → Option ℕ → Option ℕ) (k : ℕ) (old now : List (Option ℕ)) : Type 0 where
  pub len : length now ≡ length old
  pub done : (j : ℕ) → j < k → get_or now j None ≡ g j (get_or old j None)
  pub rest : (j : ℕ) → k ≤ j → get_or now j None ≡ get_or old j None

-- what a hart made stays made
pub made_stays : (b : Bool) → b ≡ false → b ≡ true → ⊥
made_stays b e f = cc
