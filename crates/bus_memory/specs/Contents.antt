-- Memory as a map from addresses to words, in pages of 1,024 words.
use Rattle.std.specs.Prelude.{ℕ, ◌+◌, ◌*◌, ◌/◌, ◌%◌, ◌==◌, ◌≡◌, ◌<◌, max, min, nat_lt, Bool, true, false, cond, List, length, get_or}
use Rattle.std.specs.List.{list_any}
use Rattle.bn_base.specs.Programs.{Program, end_of}

-- memory: its words from address 0 on, and of each page whether it is made
pub record Contents : Type 0 where
  pub words : List ℕ
  pub made : List Bool

-- the words represent a map from addresses: each aligned address has the map's word
pub record HoldsMap (words : List ℕ) (m : ℕ → ℕ) : Type 0 where
  pub at : (a : ℕ) → a % 4 ≡ 0 → a < 4 * length words → get_or words (a / 4) 0 ≡ m a

-- a map, but v at a
abbrev pub updated : ℕ → ℕ → (ℕ → ℕ) → ℕ → ℕ
updated a v m b = cond (b == a) v (m b)

-- whether the page of an address is made; past the last page none is
abbrev pub has_page : Contents → ℕ → Bool
has_page c a = get_or c.made (a / 4096) false

-- each of `count` words from an address on is in a page that is made
abbrev pub HasPages : Contents → ℕ → ℕ → Type 0
HasPages c a count = (k : ℕ) → k < count → has_page c (a + 4 * k) ≡ true

-- whether one of the bytes from `first` to before `end` is in the page of a number
abbrev pub shares_page : (first end page : ℕ) → Bool
shares_page first end page = nat_lt (max first (4096 * page)) (min end (4096 * page + 4096))

-- whether a segment has a byte in the page of a number
abbrev pub is_touched : Program → ℕ → Bool
is_touched i page = list_any (λ p. shares_page p.first (end_of p) page) i.parts
