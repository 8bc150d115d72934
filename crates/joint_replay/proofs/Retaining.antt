-- The retained intervals of a hart, gathered from the last to the first.
use Rattle.joint_replay.proofs.Common.{◌≡◌, ℕ, zero, suc, ◌≤◌, sym, ap, subst, arith, List, [], ◌∷◌, length, drop, drop-nil, Record, Retained, intervals_in, numbers, AreThere}

-- those whose Headers stand from a place on
pub record Gathered (h : ℕ) (records : List Record) (place : ℕ) (found : List Retained) : Type 0 where
  pub numbers : numbers found ≡ intervals_in h (drop place records)
  pub there : AreThere h records found

pub none_gathered : (h : ℕ) (records : List Record) (place : ℕ) (found : List Retained) → length records ≤ place → found ≡ [] → Gathered h records place found
none_gathered h records place found high e =
    subst (Gathered h records place) (sym e) (record { numbers = sym (ap (intervals_in h) (nothing_left place records high)); there = tt })
  where
    nothing_left : (n : ℕ) (rs : List Record) → length rs ≤ n → drop n rs ≡ []
    nothing_left n [] low = drop-nil n
    nothing_left zero (r ∷ rs) low = absurd (omega (arith, low))
    nothing_left (suc n) (r ∷ rs) low = nothing_left n rs (omega (arith, low))
