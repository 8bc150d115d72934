-- A Header that doesn't stand before a place.
use Rattle.hart_replay.proofs.Common.{◌≡◌, ℕ, zero, suc, ◌&&◌, ◌==◌, Bool, true, false, Option, Some, None, List, [], ◌∷◌, take, drop, refl, HartState, Record, Header, FirstLoad, ScOk, ScFailed, Edge, End, Interval, interval_from, puts, nothing, interval_of}

pub skipped : (h c n : ℕ) (rs : List Record) → interval_of h c (take n rs) ≡ None → interval_of h c (drop n rs) ≡ interval_of h c rs
skipped h c zero rs e = refl
skipped h c (suc n) [] e = refl
skipped h c (suc n) (Header k m ic pc x ∷ rs) e = by (k == h && (m == c)) (λ f. skipped h c n rs f) e
  where
    start : HartState
    start = record { pc = pc; x = x; ic = ic }

    by : (b : Bool) → (interval_of h c (take n rs) ≡ None → interval_of h c (drop n rs) ≡ interval_of h c rs) → (elim b as (λ u. Option Interval) [ true ↦ Some (interval_from start (puts h (take n rs) nothing)) | false ↦ interval_of h c (take n rs) ]) ≡ None
        → interval_of h c (drop n rs) ≡ elim b as (λ u. Option Interval) [ true ↦ Some (interval_from start (puts h rs nothing)) | false ↦ interval_of h c rs ]
    by true rest f = absurd cc
    by false rest f = rest f
skipped h c (suc n) (FirstLoad k skip value ∷ rs) e = skipped h c n rs e
skipped h c (suc n) (ScOk k ∷ rs) e = skipped h c n rs e
skipped h c (suc n) (ScFailed k ∷ rs) e = skipped h c n rs e
skipped h c (suc n) (Edge k ic s j ∷ rs) e = skipped h c n rs e
skipped h c (suc n) (End k m ∷ rs) e = skipped h c n rs e
