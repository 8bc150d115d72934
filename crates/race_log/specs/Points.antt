-- The points of a run: what they access, and when two of them conflict.
use Rattle.std.specs.Prelude.{◌≡◌, ◌≢◌, ℕ, Bool, true, ◌⊎◌, List}
use Rattle.std.specs.List.{Any}

-- an aligned word, by its byte address, that a point reads or writes
pub record Access : Type 0 where
  pub word : ℕ
  pub writes : Bool

-- an instruction that was done: its hart, how many that hart had done before it, its turn, and what it accesses
pub record Point : Type 0 where
  pub hart : ℕ
  pub count : ℕ
  pub turn : ℕ
  pub accesses : List Access

-- the point reads or writes the word
abbrev pub Touches : ℕ → Point → Type 0
Touches word p = Any (λ x. x.word ≡ word) p.accesses

-- the point writes the word
abbrev pub Writes : ℕ → Point → Type 0
Writes word p = Any (λ x. (x.word ≡ word) × (x.writes ≡ true)) p.accesses

-- both points access the word, and one of them writes it
pub record MeetAt (word : ℕ) (p q : Point) : Type 0 where
  pub first : Touches word p
  pub second : Touches word q
  pub written : Writes word p ⊎ Writes word q

-- two points of different harts share a word, and one of them writes it
pub record IsConflict (p q : Point) : Type 0 where
  pub apart : p.hart ≢ q.hart
  pub word : ℕ
  pub meet : MeetAt word p q

-- two points of one hart
abbrev pub IsSameHart : Point → Point → Type 0
IsSameHart p q = p.hart ≡ q.hart
