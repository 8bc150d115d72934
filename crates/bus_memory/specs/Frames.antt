-- How pages keep the words of memory.
use Rattle.std.specs.Prelude.{ℕ, ◌+◌, ◌*◌, ◌/◌, ◌%◌, ◌≡◌, ◌≤◌, ◌<◌, Bool, true, false, List, [], length, map, get_or}
use Rattle.std.specs.List.{range_with_len}
use Rattle.bn_base.specs.Programs.{Program, first_at}
use Rattle.bus_memory.specs.Contents.{Contents, is_touched}

-- a page: its words, of which those that it lacks are 0, and whether it is made
pub record Frame : Type 0 where
  pub words : List ℕ
  pub made : Bool

-- the page if there is none
abbrev pub no_frame : Frame
no_frame = record { words = []; made = false }

-- the word of a number, counted through the pages
abbrev pub word_of : List Frame → ℕ → ℕ
word_of fs k = get_or (get_or fs (k / 1024) no_frame).words (k % 1024) 0

-- what pages hold, one after another
unfoldable pub contents_of : List Frame → Contents
contents_of fs = record { words = map (word_of fs) (range_with_len 0 (1024 * length fs)); made = map (λ f. f.made) fs }

-- a page as it stands before the run: made if a segment touches it, with the program's first words
pub record IsFirstFrame (i : Program) (page : ℕ) (f : Frame) : Type 0 where
  pub made : f.made ≡ is_touched i page
  pub words : (k : ℕ) → k < 1024 → get_or f.words k 0 ≡ first_at i (4096 * page + 4 * k)

-- the pages from one number to before another have their words
abbrev pub HaveWords : List Frame → ℕ → ℕ → Type 0
HaveWords fs first end = (n : ℕ) → first ≤ n → n < end → length (get_or fs n no_frame).words ≡ 1024

-- the pages from one number to before another are made
abbrev pub AreMade : List Frame → ℕ → ℕ → Type 0
AreMade fs first end = (n : ℕ) → first ≤ n → n < end → (get_or fs n no_frame).made ≡ true
