-- The rounds of a search for sources.
use Rattle.race_log.proofs.Common.{◌≡◌, ℕ, zero, suc, ◌+◌, ◌*◌, ◌-◌, ◌<◌, Bool, refl, arith, ap, ◌∙◌, sym, List, [], ◌∷◌, ◌++◌, ◌&&◌, cond, Option, Some, None, gathered, is_source, newer, latest, merged, sources, counts_after, Kept}

-- counts that are equal at each hart are equal
pub same_counts : {f g : ℕ → ℕ} → ((h : ℕ) → f h ≡ g h) → f ≡ g
same_counts e = λ i h. e h i

pub latest-append : (hart : ℕ) (writes : Bool) (counts : ℕ → ℕ) (best : Option Kept) (xs ys : List Kept)
    → latest hart writes counts best (xs ++ ys) ≡ latest hart writes counts (latest hart writes counts best xs) ys
latest-append hart writes counts best [] ys = refl
latest-append hart writes counts best (x ∷ xs) ys = latest-append hart writes counts (cond (is_source hart writes counts x && newer best x.turn) (Some x) best) xs ys

-- the words from the i-th on are the i-th and those after it
pub gathered_step : (kept : ℕ → List Kept) (first count i : ℕ) → i < count
    → gathered kept (first + 4 * i) (count - i) ≡ kept (first + 4 * i) ++ gathered kept (first + 4 * (i + 1)) (count - (i + 1))
gathered_step kept first count i low =
    let s : count - i ≡ suc (count - (i + 1)) = omega arith in
    let next : first + 4 * i + 4 ≡ first + 4 * (i + 1) = omega arith in
    rw s (ap (λ w. kept (first + 4 * i) ++ gathered kept w (count - (i + 1))) next)

module _ (hart : ℕ) (writes : Bool) (counts : ℕ → ℕ) (ks : List Kept) where
  pub sources_more : (rounds : ℕ) (k : Kept) → latest hart writes counts None ks ≡ Some k
      → sources hart writes (suc rounds) counts ks ≡ (k.hart, k.ic) ∷ sources hart writes rounds (merged counts k.times) ks
  unfolding sources
  sources_more rounds k e = rw e

  pub counts_more : (rounds : ℕ) (k : Kept) → latest hart writes counts None ks ≡ Some k
      → counts_after hart writes (suc rounds) counts ks ≡ counts_after hart writes rounds (merged counts k.times) ks
  unfolding counts_after
  counts_more rounds k e = rw e

  pub sources_done : (rounds : ℕ) → latest hart writes counts None ks ≡ None → sources hart writes rounds counts ks ≡ []
  unfolding sources
  sources_done zero e = refl
  sources_done (suc rounds) e = rw e

  pub counts_done : (rounds : ℕ) → latest hart writes counts None ks ≡ None → counts_after hart writes rounds counts ks ≡ counts
  unfolding counts_after
  counts_done zero e = refl
  counts_done (suc rounds) e = rw e

  pub sources_zero : sources hart writes 0 counts ks ≡ []
  unfolding sources
  sources_zero = refl

  pub counts_zero : counts_after hart writes 0 counts ks ≡ counts
  unfolding counts_after
  counts_zero = refl

  pub sources_step : (n r : ℕ) (k : Kept) (next : ℕ → ℕ) → r < n → latest hart writes counts None ks ≡ Some k
      → ((h : ℕ) → next h ≡ merged counts k.times h)
      → sources hart writes (n - r) counts ks ≡ (k.hart, k.ic) ∷ sources hart writes (n - (r + 1)) next ks
  sources_step n r k next low e m =
      let s : n - r ≡ suc (n - (r + 1)) = omega arith in
      let is : merged counts k.times ≡ next = sym (same_counts m) in
      rw s (sources_more (n - (r + 1)) k e ∙ ap (λ f. (k.hart, k.ic) ∷ sources hart writes (n - (r + 1)) f ks) is)

  pub counts_step : (n r : ℕ) (k : Kept) (next : ℕ → ℕ) → r < n → latest hart writes counts None ks ≡ Some k
      → ((h : ℕ) → next h ≡ merged counts k.times h)
      → counts_after hart writes (n - r) counts ks ≡ counts_after hart writes (n - (r + 1)) next ks
  counts_step n r k next low e m =
      let s : n - r ≡ suc (n - (r + 1)) = omega arith in
      let is : merged counts k.times ≡ next = sym (same_counts m) in
      rw s (counts_more (n - (r + 1)) k e ∙ ap (λ f. counts_after hart writes (n - (r + 1)) f ks) is)
