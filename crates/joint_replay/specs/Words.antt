-- The known words of pages, as a list.
use Rattle.std.specs.Prelude.{◌≡◌, ◌≤◌, ℕ, zero, suc, ◌*◌, List, [], ◌∷◌, Option, Some, None}
use Rattle.hart_replay.specs.Pages.{Frame, word_at}
use Rattle.hart_replay.specs.Sides.{word_count}
use Rattle.joint_replay.specs.Memory.{Bytes}

-- the word of number k, if it is known, before others; its address is 4 * k
abbrev pub in_front : ℕ → Option ℕ → List (ℕ × ℕ) → List (ℕ × ℕ)
in_front k None words = words
in_front k (Some w) words = (4 * k, w) ∷ words

-- the known ones of n words from number k on, by ascending address
abbrev pub words_from : (ℕ → Option ℕ) → ℕ → ℕ → List (ℕ × ℕ)
words_from known k zero = []
words_from known k (suc n) = in_front k (known k) (words_from known (suc k) n)

-- all known words of pages
abbrev pub words_of : List (ℕ × Frame) → List (ℕ × ℕ)
words_of pages = words_from (word_at pages) 0 word_count

-- no word of this number or above it is known
abbrev pub AreBelow : ℕ → List (ℕ × Frame) → Type 0
AreBelow end pages = (k : ℕ) → end ≤ k → word_at pages k ≡ None

-- the known words of a memory, and for how many pages more there is room
pub record Remembered : Type 0 where
  pub words : List (ℕ × ℕ)
  pub room : ℕ

-- so many bytes from an address on
abbrev pub bytes_at : ℕ × ℕ → Bytes
bytes_at range = record { first = range.0; count = range.1 }
