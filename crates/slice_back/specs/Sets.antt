-- The live registers and words of rows, as a set holds them.
use Rattle.std.specs.Prelude.{◌≡◌, ℕ, ◌*◌, ◌<◌, Bool, false, List, get_or, is_some}
use Rattle.hart_replay.specs.Pages.{Frame, word_at}
use Rattle.slice_back.specs.Slices.{Live}

-- a set: whether each register is in it, and the words in it, in pages
pub record Held : Type 0 where
  pub registers : List Bool
  pub pages : List (ℕ × Frame)

-- whether register q is in the set
abbrev pub has_register : Held → ℕ → Bool
has_register h q = get_or h.registers q false

-- word k has the addresses from 4 * k on
abbrev pub has_word : Held → ℕ → Bool
has_word h k = is_some (word_at h.pages k)

-- the set holds what is live
pub record Holds (h : Held) (l : Live) : Type 0 where
  pub registers : (q : ℕ) → q < 32 → has_register h q ≡ l.registers q
  pub words : (k : ℕ) → has_word h k ≡ l.words (4 * k)
