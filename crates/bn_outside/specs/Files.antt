-- What is known of a store, and what it holds: a map from names to bytes, for stores whose contents contracts can name.
use Rattle.std.specs.Prelude.{◌≡◌, ◌≢◌, ℕ, ◌<◌, ◌≤◌, List, length, Option, Some, None, Result, Ok, Err, IsSomeAnd, Vec, ⊤}
use Rattle.bn_outside.specs.Counts.{Counts}
use Rattle.bn_outside.specs.declared.store.LoadError.{LoadError}
use Rattle.bn_outside.specs.declared.store.LoadError.TheVariants as load

-- the bytes under each name, if there is one
abbrev pub Files : Type 0
Files = List ℕ → Option (List ℕ)

-- a store: its files, if it tells them, how many saves it was asked for, how often a call of each kind failed, and what it
-- has noted of its calls, as a number
pub record Stored : Type 0 where
  pub files : Option Files
  pub saves : ℕ
  pub counts : Counts
  pub noted : ℕ

-- what the answer of a load with a limit says of the bytes under its name: they are there, aren't, or are too many. If memory
-- runs out they are there and fit the limit
abbrev pub LoadTells : {A : Type 0} → Option (List ℕ) → ℕ → Result (Vec ℕ A) LoadError → Type 0
LoadTells there limit (Ok bytes) = there ≡ Some bytes.items
LoadTells there limit (Err load.Missing) = there ≡ None
LoadTells there limit (Err load.TooLong) = IsSomeAnd there (λ bytes. limit < length bytes)
LoadTells there limit (Err load.Failed) = ⊤
LoadTells there limit (Err load.OutOfMemory) = IsSomeAnd there (λ bytes. length bytes ≤ limit)

-- a store that told its map before a call tells it after the call too, and the two maps are related
abbrev pub WhereTold : Option Files → Option Files → (Files → Files → Type 0) → Type 0
WhereTold None new R = ⊤
WhereTold (Some old) None R = ⊥
WhereTold (Some old) (Some new) R = R old new

-- all names but one have what they had
abbrev pub SameElsewhere : List ℕ → Files → Files → Type 0
SameElsewhere name old new = (other : List ℕ) → other ≢ name → new other ≡ old other
