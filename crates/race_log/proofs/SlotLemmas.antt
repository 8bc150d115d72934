-- The slots of a word.
use Rattle.race_log.proofs.Common.{◌≡◌, ℕ, zero, suc, ◌+◌, ◌-◌, ◌%◌, ◌<◌, Bool, true, false, not, ◌&&◌, ◌||◌, ◌==◌, cond, refl, arith, ap, ◌∙◌, List, [], ◌∷◌, ◌++◌, Option, Some, None, slice_get, Read, Slot, Kept, latest, newer, KeptWords, kept_in, page_of, place_of, epoch_counts, kept_by, read_in, reads_in, word_in}
use Rattle.race_log.proofs.Rounds.{latest-append}

-- the reads from one hart on are that hart's and those after it
pub reads_step : (counts : ℕ → ℕ → ℕ) (page : List Slot) (at hart harts : ℕ) → hart < harts
    → reads_in counts page at hart (harts - hart) ≡ read_in counts hart (slice_get page (at + hart)) ++ reads_in counts page at (hart + 1) (harts - (hart + 1))
reads_step counts page at hart harts low =
    let s : harts - hart ≡ suc (harts - (hart + 1)) = omega arith in
    let n : suc hart ≡ hart + 1 = omega arith in
    rw s (ap (λ g. read_in counts hart (slice_get page (at + hart)) ++ reads_in counts page at g (harts - (hart + 1))) n)

-- a read is no source of an edge into a read
read_not_source : (hart : ℕ) (known_counts : ℕ → ℕ) (counts : ℕ → ℕ → ℕ) (best : Option Kept) (other : ℕ) (s : Option Slot)
    → latest hart false known_counts best (read_in counts other s) ≡ best
read_not_source hart ks counts best other None = refl
read_not_source hart ks counts best other (Some s) = go (s.after == 0)
  where
    none : (a b c : Bool) → ((not a && (false || false)) && b) && c ≡ false
    none true b c = refl
    none false b c = refl

    go : (z : Bool) → latest hart false ks best (cond z [] (kept_by counts Read other s.turn s.after s.epoch ∷ [])) ≡ best
    go true = refl
    go false =
        ap (λ t. cond t (Some (kept_by counts Read other s.turn s.after s.epoch)) best)
        (none (other == hart) _ (newer best s.turn))

pub reads_not_sources : (hart : ℕ) (known_counts : ℕ → ℕ) (counts : ℕ → ℕ → ℕ) (best : Option Kept) (page : List Slot) (at other n : ℕ)
    → latest hart false known_counts best (reads_in counts page at other n) ≡ best
reads_not_sources hart ks counts best page at other zero = refl
reads_not_sources hart ks counts best page at other (suc n) =
    latest-append hart false ks best (read_in counts other (slice_get page (at + other))) (reads_in counts page at (suc other) n)
    ∙ (ap (λ b. latest hart false ks b (reads_in counts page at (suc other) n)) (read_not_source hart ks counts best other (slice_get page (at + other)))
    ∙ reads_not_sources hart ks counts best page at (suc other) n)

-- what is kept of an aligned word is what its slots keep
pub kept_aligned : (words : KeptWords) (word : ℕ) → word % 4 ≡ 0
    → kept_in words word ≡ word_in (epoch_counts words.epochs) words.harts (page_of words word) (place_of words.harts word)
kept_aligned words word e = let t : (word % 4 == 0) ≡ true = grind arith in rw t refl
