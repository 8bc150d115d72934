-- Which records a ring keeps.
use Rattle.std.specs.Prelude.{◌≡◌, ℕ, ◌+◌, ◌≤◌, nat_le, List, [], ◌∷◌, ◌++◌, length, if◌then◌else◌}
use Rattle.log_record.specs.declared.record.Record.{Record}
use Rattle.log_record.specs.Spelling.{total}

-- what a ring buffer of a size keeps of a list of records: its longest suffix whose bytes sum to at most the size. A record is
-- kept whole or not at all
unfoldable pub kept : ℕ → List Record → List Record
kept size [] = []
kept size (r ∷ rs) = if nat_le (total (r ∷ rs)) size then r ∷ rs else kept size rs

-- what is seen of a ring: the records that it holds, the oldest first, how many it gave up, and how many bytes it may hold
pub record Held : Type 0 where
  pub records : List Record
  pub dropped : ℕ
  pub size : ℕ

-- a `Held` of these three fields
abbrev pub held : List Record → ℕ → ℕ → Held
held records dropped size = record { records = records; dropped = dropped; size = size }

-- the ring is the log of these records: it holds the last of them that fit its size, and counts each of the others as dropped
pub record HoldsLog (ring : Held) (appended : List Record) : Type 0 where
  pub latest : ring.records ≡ kept ring.size appended
  pub counted : ring.dropped + length ring.records ≡ length appended

-- one append: of the old records and the new one after them the first (`front`) are gone, counted, and at most 73. A record has
-- 146 bytes at most and 2 at least
pub record GivesUp (old : Held) (r : Record) (new : Held) : Type 0 where
  pub front : List Record
  pub parts : old.records ++ r ∷ [] ≡ front ++ new.records
  pub dropped : new.dropped ≡ old.dropped + length front
  pub few : length front ≤ 73

-- what one append of a record does to a ring
pub record Appends (old : Held) (r : Record) (new : Held) : Type 0 where
  pub latest : new.records ≡ kept old.size (old.records ++ r ∷ [])
  pub given_up : GivesUp old r new
  pub size : new.size ≡ old.size
  pub holds : (appended : List Record) → HoldsLog old appended → HoldsLog new (appended ++ r ∷ [])

-- what one append of several records does to a ring
pub record AppendsAll (old : Held) (rs : List Record) (new : Held) : Type 0 where
  pub latest : new.records ≡ kept old.size (old.records ++ rs)
  pub counted : new.dropped + length new.records ≡ old.dropped + length old.records + length rs
  pub size : new.size ≡ old.size
  pub holds : (appended : List Record) → HoldsLog old appended → HoldsLog new (appended ++ rs)
