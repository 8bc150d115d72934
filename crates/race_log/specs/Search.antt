-- How the sources of the edges into an access are found among the kept accesses of its words.
use Rattle.std.specs.Prelude.{ℕ, zero, suc, ◌+◌, Bool, true, not, ◌&&◌, ◌||◌, List, [], ◌∷◌, ◌++◌, ◌==◌, nat_lt, max, cond, Option, Some, None}
use Rattle.race_log.specs.Kept.{Kept, is_write}

-- what is kept of so many words from the first
abbrev pub gathered : (ℕ → List Kept) → ℕ → ℕ → List Kept
gathered kept first zero = []
gathered kept first (suc n) = kept first ++ gathered kept (first + 4) n

-- whether the hart's access conflicts with a kept one that the counts don't cover
abbrev pub is_source : ℕ → Bool → (ℕ → ℕ) → Kept → Bool
is_source hart writes counts k =
    (not (k.hart == hart) && (is_write k.mode || writes)) && not (nat_lt k.ic (counts k.hart))

-- whether the turn is later than the best one's, if there is one
abbrev pub newer : Option Kept → ℕ → Bool
newer None turn = true
newer (Some k) turn = nat_lt k.turn turn

-- the latest source among the kept accesses, or best if none is later
abbrev pub latest : ℕ → Bool → (ℕ → ℕ) → Option Kept → List Kept → Option Kept
latest hart writes counts best [] = best
latest hart writes counts best (k ∷ ks) =
    latest hart writes counts (cond (is_source hart writes counts k && newer best k.turn) (Some k) best) ks

-- the greater count of each hart
abbrev pub merged : (ℕ → ℕ) → (ℕ → ℕ) → ℕ → ℕ
merged f g h = max (f h) (g h)

-- the source found, and those found after it
abbrev pub then_sources : Option Kept → (Kept → List (ℕ × ℕ)) → List (ℕ × ℕ)
then_sources None rest = []
then_sources (Some k) rest = (k.hart, k.ic) ∷ rest k

-- the counts after what was found, or as they are
abbrev pub then_counts : (ℕ → ℕ) → Option Kept → (Kept → ℕ → ℕ) → ℕ → ℕ
then_counts counts None rest = counts
then_counts counts (Some k) rest = rest k

-- the latest source, each time after the counts took in the times of the one before, at most so many times
unfoldable pub sources : ℕ → Bool → ℕ → (ℕ → ℕ) → List Kept → List (ℕ × ℕ)
sources hart writes zero counts ks = []
sources hart writes (suc rounds) counts ks =
    then_sources (latest hart writes counts None ks) (λ k. sources hart writes rounds (merged counts k.times) ks)

-- the counts after them
unfoldable pub counts_after : ℕ → Bool → ℕ → (ℕ → ℕ) → List Kept → ℕ → ℕ
counts_after hart writes zero counts ks = counts
counts_after hart writes (suc rounds) counts ks =
    then_counts counts (latest hart writes counts None ks) (λ k. counts_after hart writes rounds (merged counts k.times) ks)
