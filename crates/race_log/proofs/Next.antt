-- A run and one more point.
use Rattle.race_log.proofs.Common.{◌≡◌, ℕ, zero, suc, ◌<◌, true, ◌⊎◌, refl, inl, inr, arith, sym, ap, ◌∙◌, List, [], ◌∷◌, length, slice_get, Option, Some, None, subst, Point, IsConflict, IsSameHart, AtPlaces, ProgramOrder, Conflict, Either, Before, one, more, is_of_hart, UpTo, after}
use Rattle.race_log.proofs.BoolFacts.{same_number}
use Rattle.race_log.proofs.Chains.{chain_map}
use Rattle.race_log.proofs.EdgeLaws.{all_rise, one_point}
use Rattle.race_log.proofs.MergeLaws.{is_in, of_hart_at}

pub get_old : (run : List Point) (b : Point) (m : ℕ) → m < length run → slice_get (after run b) m ≡ slice_get run m
get_old [] b m h = absurd (omega arith)
get_old (p ∷ run) b zero h = refl
get_old (p ∷ run) b (suc m) h = get_old run b m (omega arith)

pub old_at : (run : List Point) (b : Point) (m : ℕ) (p : Point) → slice_get run m ≡ Some p → slice_get (after run b) m ≡ Some p
old_at run b m p e = get_old run b m (is_in run m p e) ∙ e

pub get_new : (run : List Point) (b : Point) → slice_get (after run b) (length run) ≡ Some b
get_new [] b = refl
get_new (p ∷ run) b = get_new run b

pub in_after : (run : List Point) (b : Point) (m : ℕ) (p : Point) → slice_get (after run b) m ≡ Some p
    → ((m < length run) × (slice_get run m ≡ Some p)) ⊎ ((m ≡ length run) × (b ≡ p))
in_after [] b zero p e = inr (refl, cc)
in_after [] b (suc m) p e = cc
in_after (q ∷ run) b zero p e = inl (omega arith, e)
in_after (q ∷ run) b (suc m) p e = elim (in_after run b m p e) [
  | inl old ↦ inl (let low = old.0 in omega arith, old.1)
  | inr new ↦ inr (ap suc new.0, new.1)
]

-- a relation of places of the run is one of the longer run's, and back
places_new : (Related : Point → Point → Type 0) (run : List Point) (b : Point) (m k : ℕ) → AtPlaces Related run m k → AtPlaces Related (after run b) m k
places_new Related run b m k a = record {
  earlier = a.earlier;
  first = a.first;
  second = a.second;
  first_at = old_at run b m a.first a.first_at;
  second_at = old_at run b k a.second a.second_at;
  related = a.related;
}

places_old : (Related : Point → Point → Type 0) (run : List Point) (b : Point) (m k : ℕ) → k < length run → AtPlaces Related (after run b) m k → AtPlaces Related run m k
places_old Related run b m k low a =
    let up = a.earlier in record {
      earlier = a.earlier;
      first = a.first;
      second = a.second;
      first_at = sym (get_old run b m (omega arith)) ∙ a.first_at;
      second_at = sym (get_old run b k low) ∙ a.second_at;
      related = a.related;
    }

pub before_new : (run : List Point) (b : Point) {m k : ℕ} → Before run m k → Before (after run b) m k
before_new run b c = chain_map step c
  where
    step : (m k : ℕ) → Either (ProgramOrder run) (Conflict run) m k → Either (ProgramOrder (after run b)) (Conflict (after run b)) m k
    step m k (inl o) = inl (places_new IsSameHart run b m k o)
    step m k (inr c) = inr (places_new IsConflict run b m k c)

step_old : (run : List Point) (b : Point) (m k : ℕ) → k < length run
    → Either (ProgramOrder (after run b)) (Conflict (after run b)) m k → Either (ProgramOrder run) (Conflict run) m k
step_old run b m k low (inl o) = inl (places_old IsSameHart run b m k low o)
step_old run b m k low (inr c) = inr (places_old IsConflict run b m k low c)

pub before_old : (run : List Point) (b : Point) {m k : ℕ} → k < length run → Before (after run b) m k → Before run m k
before_old run b {m = m} {k = k} h (one s) = one (step_old run b m k h s)
before_old run b {m = m} {k = k} h (more {k = q} c s) =
    let low = all_rise (after run b) q k s in
    more (before_old run b (omega arith) c) (step_old run b q k h s)

pub up_new : (run : List Point) (b : Point) {m k : ℕ} → UpTo run m k → UpTo (after run b) m k
up_new run b (inl e) = inl e
up_new run b (inr c) = inr (before_new run b c)

pub up_old : (run : List Point) (b : Point) {m k : ℕ} → k < length run → UpTo (after run b) m k → UpTo run m k
up_old run b h (inl e) = inl e
up_old run b h (inr c) = inr (before_old run b h c)

-- a step to the new point
abbrev pub LastStep : List Point → Point → ℕ → Type 0
LastStep run b r = Either (ProgramOrder (after run b)) (Conflict (after run b)) r (length run)

-- a chain to the new point comes from an earlier one by a last step
pub last_step : (run : List Point) (b : Point) (m : ℕ) → Before (after run b) m (length run)
    → (r : ℕ) × (r < length run) × UpTo run m r × LastStep run b r
last_step run b m (one s) = (m, all_rise (after run b) m (length run) s, inl refl, s)
last_step run b m (more {k = r} c s) =
    let low = all_rise (after run b) r (length run) s in (r, low, inr (before_old run b low c), s)

-- the same backwards
pub step_last : (run : List Point) (b : Point) (m r : ℕ) → UpTo run m r → LastStep run b r → Before (after run b) m (length run)
step_last run b m r (inl e) s = one (rw e s)
step_last run b m r (inr c) s = more (before_new run b c) s

-- program order into the new point
pub own_order : (run : List Point) (b : Point) (r : ℕ) → ProgramOrder (after run b) r (length run) → is_of_hart b.hart (slice_get run r) ≡ true
own_order run b r o =
    let up = o.earlier in
    let at = sym (get_old run b r up) ∙ o.first_at in
    let is = one_point (after run b) (length run) o.second b o.second_at (get_new run b) in
    of_hart_at run b.hart r o.first at (o.related ∙ ap (λ (x : Point). x.hart) is)

pub order_own : (run : List Point) (b : Point) (r : ℕ) → is_of_hart b.hart (slice_get run r) ≡ true → ProgramOrder (after run b) r (length run)
order_own run b r s = go (slice_get run r) refl s
  where
    go : (o : Option Point) → slice_get run r ≡ o → is_of_hart b.hart o ≡ true → ProgramOrder (after run b) r (length run)
    go None e t = cc
    go (Some p) e t = record {
      earlier = is_in run r p e;
      first = p;
      second = b;
      first_at = old_at run b r p e;
      second_at = get_new run b;
      related = same_number p.hart b.hart t;
    }

-- a conflict of the new point
pub new_conflict : (run : List Point) (b : Point) (r : ℕ) → Conflict (after run b) r (length run)
    → (p : Point) × (slice_get run r ≡ Some p) × IsConflict p b
new_conflict run b r c =
    let up = c.earlier in
    let is = one_point (after run b) (length run) c.second b c.second_at (get_new run b) in
    (c.first, sym (get_old run b r up) ∙ c.first_at, subst (λ (x : Point). IsConflict c.first x) is c.related)

pub conflict_new : (run : List Point) (b : Point) (r : ℕ) (p : Point) → slice_get run r ≡ Some p → IsConflict p b → Conflict (after run b) r (length run)
conflict_new run b r p e c = record {
  earlier = is_in run r p e;
  first = p;
  second = b;
  first_at = old_at run b r p e;
  second_at = get_new run b;
  related = c;
}
