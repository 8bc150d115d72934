-- The words that rows tell of, and the points that access them.
use Rattle.std.specs.Prelude.{◌≡◌, ℕ, ◌+◌, List, [], ◌∷◌, ◌++◌, is_some, length, take, slice_get, Option, Some, None}
use Rattle.row_laws.specs.Common.{Program, Row, RawSettings, at_address, Point, Run, turn, run_of}

-- the word that a row stores at the aligned address a, else loads there
abbrev pub word_told : Row → ℕ → Option ℕ
word_told r a = at_address a r.store (at_address a r.load None)

-- the point of hart h's row that tells the word at a: it accesses that word alone, and writes it if the row stores
abbrev pub word_point : (h turn : ℕ) → Row → ℕ → Point
word_point h turn r a = record { hart = h; count = r.ic; turn = turn; accesses = record { word = a; writes = is_some r.store } ∷ [] }

-- hart h's turn adds a point
abbrev pub Adds : RawSettings → Program → Run → ℕ → Point → Type 0
Adds c i run h p = (turn c i run h).points ≡ run.points ++ p ∷ []

-- place m's point is the one that a turn of its hart added
pub record IsPointOfTurn (c : RawSettings) (i : Program) (input b : List ℕ) (m : ℕ) (p : Point) : Type 0 where
  pub front : List ℕ
  pub back : List ℕ
  pub turns : b ≡ front ++ p.hart ∷ back
  pub turn_is : p.turn ≡ length front
  pub place : m ≡ length (run_of c i input front).points
  pub adds : Adds c i (run_of c i input front) p.hart p

-- memory right after a turn of a list, which is given by its number from 0
abbrev pub memory_after : RawSettings → Program → (input b : List ℕ) → (turn : ℕ) → ℕ → ℕ
memory_after c i input b turn = (run_of c i input (take (turn + 1) b)).machine.memory

-- the run has the point of a row that tells a word, and memory right after it has that word
pub record HasWord (c : RawSettings) (i : Program) (input b : List ℕ) (h : ℕ) (r : Row) (a word : ℕ) : Type 0 where
  pub place : ℕ
  pub point : Point
  pub at : slice_get (run_of c i input b).points place ≡ Some point
  pub is : point ≡ word_point h point.turn r a
  pub value : memory_after c i input b point.turn a ≡ word
