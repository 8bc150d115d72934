-- What happens to a hart's cache, and how addresses fall into words, lines and sets.
use Rattle.std.specs.Prelude.{ℕ, ◌*◌, ◌/◌, ◌%◌, ◌≡◌}

-- the shape of a cache: how many sets it has, how many lines a set lists, and how many words a line has. So for the sets
-- and lines of its second level, both 0 if it has none
pub record Geometry : Type 0 where
  pub sets : ℕ
  pub ways : ℕ
  pub line : ℕ
  pub sets2 : ℕ
  pub ways2 : ℕ

-- an access of the word at an address, a drop of the line at an address (an invalidation), or a clear
pub data Event : Type 0 where
  Touch : (addr : ℕ) → Event
  Drop : (addr : ℕ) → Event
  Clear : Event

-- the number of the word that has the byte at an address
abbrev pub word_of : ℕ → ℕ
word_of a = a / 4

-- the number of the line that has the byte at an address
abbrev pub line_of : Geometry → ℕ → ℕ
line_of g a = a / (4 * g.line)

-- the set that a line belongs to
abbrev pub set_of : Geometry → ℕ → ℕ
set_of g l = l % g.sets

-- the shape of the second level by itself
abbrev pub second_of : Geometry → Geometry
second_of g = record { sets = g.sets2; ways = g.ways2; line = g.line; sets2 = 0; ways2 = 0 }

-- the first address of a line
abbrev pub line_start : Geometry → ℕ → ℕ
line_start g l = l * (4 * g.line)

-- the event is an access of the line
abbrev pub IsTouchOf : Geometry → ℕ → Event → Type 0
IsTouchOf g l (Touch a) = line_of g a ≡ l
IsTouchOf g l (Drop a) = ⊥
IsTouchOf g l Clear = ⊥

-- the event is a drop of the line
abbrev pub IsDropOf : Geometry → ℕ → Event → Type 0
IsDropOf g l (Touch a) = ⊥
IsDropOf g l (Drop a) = line_of g a ≡ l
IsDropOf g l Clear = ⊥
