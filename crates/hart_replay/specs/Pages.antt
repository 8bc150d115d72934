-- The words that a replay knows, in pages of 64 words.
use Rattle.std.specs.Prelude.{ℕ, ◌/◌, ◌%◌, ◌^◌, ◌==◌, true, false, List, slice_index, slice_set, bit_and, bit_or, Option, Some, None, nat_eq}
use Rattle.std.specs.Int.{bit_at, bit_not, w64}
use Rattle.std.specs.Map.{lookup}

-- a page: the places of the words that are known, as bits of a mask, and the words
pub record Frame : Type 0 where
  pub known : ℕ
  pub words : List ℕ

-- the word at a place, if it is known
abbrev pub word_in : Frame → ℕ → Option ℕ
word_in f place = elim (bit_at f.known place == 1) [ true ↦ Some (slice_index f.words place) | false ↦ None ]

-- the same of a page that may not be there
abbrev pub word_of : Option Frame → ℕ → Option ℕ
word_of None place = None
word_of (Some f) place = word_in f place

-- the known word of a number; pages are named by their numbers, and word k is at the addresses from 4 * k on
abbrev pub word_at : List (ℕ × Frame) → ℕ → Option ℕ
word_at pages k = word_of (lookup (nat_eq (k / 64)) pages) (k % 64)

-- a page with one word more
abbrev pub marked : Frame → ℕ → ℕ → Frame
marked f place word = record { known = bit_or f.known (2 ^ place); words = slice_set f.words place word }

-- a page with one word less
abbrev pub cleared : Frame → ℕ → Frame
cleared f place = record { known = bit_and f.known (bit_not w64 (2 ^ place)); words = f.words }

-- the known words, in pages by their numbers, and for how many pages more there is room
pub record Known : Type 0 where
  pub pages : List (ℕ × Frame)
  pub room : ℕ
