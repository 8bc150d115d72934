-- What is known of a source and of a sink: what it has left and what it was given, if they tell it, and its counts.
use Rattle.std.specs.Prelude.{◌≡◌, ◌↔◌, ℕ, ◌<◌, ◌≤◌, List, [], ◌∷◌, Option, Some, None, length, take, ⊤}
use Rattle.std.specs.Io.KnownBytes.{Appends, Consumes}

-- a sink: what it was given, if it tells that, and how often a write failed
pub record Stream : Type 0 where
  pub text : Option (List ℕ)
  pub faults : ℕ

-- a source: what it has left, if it tells that, how often a read failed, and what it has noted of its reads, as a number
pub record Supply : Type 0 where
  pub left : Option (List ℕ)
  pub faults : ℕ
  pub noted : ℕ

-- a read that found these bytes left, into a buffer with room, answered 0 exactly if there were none
abbrev pub EndsExactly : Option (List ℕ) → ℕ → List ℕ → Type 0
EndsExactly None n buffer = ⊤
EndsExactly (Some left) n buffer = 0 < length buffer → (n ≡ 0) ↔ (left ≡ [])

-- these are all the bytes that were left, and none is left now
abbrev pub ConsumesAll : Option (List ℕ) → Option (List ℕ) → List ℕ → Type 0
ConsumesAll None new bytes = ⊤
ConsumesAll (Some left) new bytes = (bytes ≡ left) × (new ≡ Some [])

-- at most so many bytes at the front of what was left are gone
abbrev pub ConsumesWithin : ℕ → Option (List ℕ) → Option (List ℕ) → Type 0
ConsumesWithin most old new = (bytes : List ℕ) × (length bytes ≤ most) × Consumes old new bytes

-- some prefix of a text was added, perhaps all of it
abbrev pub AppendsPart : Option (List ℕ) → Option (List ℕ) → List ℕ → Type 0
AppendsPart old new text = (n : ℕ) × Appends old new (take n text)

-- a prefix of a text was added, and not all of it
abbrev pub AppendsShort : Option (List ℕ) → Option (List ℕ) → List ℕ → Type 0
AppendsShort old new text = (n : ℕ) × (n < length text) × Appends old new (take n text)

-- what a source notes of a read: of what it has noted before, and of what out has been given by then
abbrev pub ReadNote : Type 0
ReadNote = ℕ → Option (List ℕ) → ℕ

-- what it has noted after reads, at each of which out had been given one of these
abbrev pub noted_after : ReadNote → ℕ → List (Option (List ℕ)) → ℕ
noted_after note noted [] = noted
noted_after note noted (had ∷ given) = noted_after note (note noted had) given
