-- A shadow that knows of no point.
use Rattle.race_log.proofs.Common.{◌≡◌, ℕ, zero, suc, Bool, refl, inl, arith, List, [], ◌∷◌, ◌++◌, slice_get, Some, subst, Times, count_of, Shadow, Point, Suffices, RepresentsAccesses, is_live, times_of, kept_of, counts_at}

no_point : (m : ℕ) (p : Point) → slice_get [] m ≡ Some p → ⊥
no_point m p e = cc

none_suffices : (live : ℕ → Bool) (w : ℕ) → Suffices [] live w []
none_suffices live w = record {
  each = λ k i. absurd i;
  writes = λ m p e t. absurd (no_point m p e);
  accesses = λ m p e t. absurd (no_point m p e);
}

pub stands_none : (s : Shadow) → ((h g : ℕ) → times_of s h g ≡ 0) → ((w : ℕ) → kept_of s w ≡ []) → (live : ℕ → Bool) → RepresentsAccesses [] live s
stands_none s zeros none live = record {
  in_order = record { turns = λ i j d low fits. absurd (omega arith); counts = λ i j d low fits same. absurd (omega arith) };
  harts = λ k d low. absurd (omega arith);
  past = λ k d low. absurd (omega arith);
  own = λ hart low. record {
    covers = λ m p e less. absurd (no_point m p e);
    covered = λ m p e s. absurd (no_point m p e);
    exact = λ g. inl (zeros hart g);
  };
  kept = λ w. subst (Suffices [] (is_live s live) w) (sym (none w)) (none_suffices (is_live s live) w);
}
  where
    sym : {X : Type 0} {a c : X} → a ≡ c → c ≡ a
    sym e = cc

-- times that are all 0
pub AllZero : List Times → Type 0
AllZero [] = Unit {0}
AllZero (t ∷ ts) = ((g : ℕ) → count_of t g ≡ 0) × AllZero ts

pub zero_more : (ts : List Times) (t : Times) → AllZero ts → ((g : ℕ) → count_of t g ≡ 0) → AllZero (ts ++ t ∷ [])
unfolding AllZero
zero_more [] t all z = (z, tt)
zero_more (x ∷ ts) t all z = (all.0, zero_more ts t all.1 z)

pub zero_none : AllZero []
unfolding AllZero
zero_none = tt

pub zero_at : (ts : List Times) (h g : ℕ) → AllZero ts → counts_at (slice_get ts h) g ≡ 0
unfolding AllZero
zero_at [] h g all = refl
zero_at (t ∷ ts) zero g all = all.0 g
zero_at (t ∷ ts) (suc h) g all = zero_at ts h g all.1
