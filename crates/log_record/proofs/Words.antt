-- Words one after another: what is written at a place is read there, and what is read is written there.
use Rattle.log_record.proofs.Common.{◌≡◌, ℕ, zero, suc, ◌+◌, ◌-◌, ◌*◌, ◌^◌, ◌<◌, ◌≤◌, List, [], ◌∷◌, ◌++◌, length, drop, refl, sym, ap, ap₂, ◌∙◌, append_assoc, arith, flat_map, AllByRecursion, slice_index, AreRegisters, append-nil, number_at, number_bytes, AreBytes, AreRead, AreWritten, Fit, words_at}

pub length-words_at : (count at : ℕ) (bytes : List ℕ) → length (words_at count at bytes) ≡ count
unfolding words_at
length-words_at zero at bytes = refl
length-words_at (suc count) at bytes = ap suc (length-words_at count (at + 4) bytes)

module _ (written : AreWritten) (fit : Fit) where
  -- from a place on, bytes are those of the words that are read there, and the rest
  pub drop-words_at : (count at next : ℕ) (bytes : List ℕ) → AreBytes bytes → next ≤ length bytes → at + 4 * count ≡ next
      → drop at bytes ≡ flat_map (number_bytes 4) (words_at count at bytes) ++ drop next bytes
  unfolding words_at
  drop-words_at zero at next bytes are within e = ap (λ (k : ℕ). drop k bytes) (omega arith)
  drop-words_at (suc count) at next bytes are within e =
      let first = written 4 at bytes are (omega arith) in
      let others = drop-words_at count (at + 4) next bytes are within (omega arith) in
      first ∙ ap (λ (t : List ℕ). number_bytes 4 (number_at 4 at bytes) ++ t) others
      ∙ sym (append_assoc (number_bytes 4 (number_at 4 at bytes)) (flat_map (number_bytes 4) (words_at count (at + 4) bytes)) (drop next bytes))

  pub words_at-small : (count at : ℕ) (bytes : List ℕ) → AreBytes bytes → AllByRecursion (λ w. w < 2 ^ 32) (words_at count at bytes)
  unfolding words_at
  words_at-small zero at bytes are = tt
  words_at-small (suc count) at bytes are = (fit 4 at bytes are, words_at-small count (at + 4) bytes are)

-- words are read at the place of their bytes
pub words_at-written : AreRead → (words : List ℕ) (at : ℕ) (bytes rest : List ℕ) → AllByRecursion (λ w. w < 2 ^ 32) words → drop at bytes ≡ flat_map (number_bytes 4) words ++ rest
    → words_at (length words) at bytes ≡ words
unfolding words_at
words_at-written read [] at bytes rest small there = refl
words_at-written read (w ∷ words) at bytes rest small there =
    let back = read 4 at w bytes (flat_map (number_bytes 4) words ++ rest) small.0 (there ∙ append_assoc (number_bytes 4 w) (flat_map (number_bytes 4) words) rest) in
    ap₂ (λ (x : ℕ) (xs : List ℕ). x ∷ xs) back.0 (words_at-written read words (at + 4) bytes rest small.1 back.1)

-- a loop that has read the words in front reads one more
pub words_at-more : (front : List ℕ) (count i at next : ℕ) (bytes total : List ℕ) → i < count → at + 4 ≡ next → front ++ words_at (count - i) at bytes ≡ total
    → (front ++ number_at 4 at bytes ∷ []) ++ words_at (count - (i + 1)) next bytes ≡ total
unfolding words_at
words_at-more front count i at next bytes total lt e so_far =
    let k : count - i ≡ suc (count - (i + 1)) = omega arith in
    append_assoc front (number_at 4 at bytes ∷ []) (words_at (count - (i + 1)) next bytes)
    ∙ ap (λ (j : ℕ). front ++ number_at 4 at bytes ∷ words_at (count - (i + 1)) j bytes) (sym e)
    ∙ ap (λ (j : ℕ). front ++ words_at j at bytes) (sym k) ∙ so_far

-- and has read all of them in the end
pub words_at-done : (front : List ℕ) (left at : ℕ) (bytes total : List ℕ) → left ≡ 0 → front ++ words_at left at bytes ≡ total → front ≡ total
unfolding words_at
words_at-done front left at bytes total e so_far =
    let none : words_at left at bytes ≡ [] = ap (λ (k : ℕ). words_at k at bytes) e in
    sym (append-nil front) ∙ ap (λ (t : List ℕ). front ++ t) (sym none) ∙ so_far

pub all_small : (words : List ℕ) → ((i : ℕ) → slice_index words i < 2 ^ 32) → AllByRecursion (λ w. w < 2 ^ 32) words
all_small [] small = tt
all_small (w ∷ words) small = (small 0, all_small words (λ i. small (suc i)))

-- 32 words of which the first is 0
pub are_registers : (x : List ℕ) → length x ≡ 32 → slice_index x 0 ≡ 0 → AllByRecursion (λ w. w < 2 ^ 32) (drop 1 x) → AreRegisters x
are_registers [] count first small = absurd (omega arith)
are_registers (w ∷ words) count first small = record { others = words; zero_first = ap (λ (v : ℕ). v ∷ words) first; count = omega arith; are_words = small }
