-- The steps by which a cache takes in an access or a drop.
use Rattle.std.specs.Prelude.{ℕ, ◌+◌, ◌-◌, ◌*◌, ◌<◌, ◌≤◌, ◌≡◌, ◌↔◌, ◌∷◌, List, length, take, drop, if◌then◌else◌}
use Rattle.first_load_bits.specs.declared.way.Way.{Way}
use Rattle.first_load_bits.specs.declared.warm.Warm.{Warm}
use Rattle.first_load_bits.specs.declared.warm.Warm.TheVariants as Answer
use Rattle.first_load_bits.specs.Events.{Event, line_of, set_of, second_of}
use Rattle.first_load_bits.specs.Events.{Touch}
use Rattle.first_load_bits.specs.History.{IsWarm}
use Rattle.first_load_bits.specs.Warm.{warm}
use Rattle.first_load_bits.specs.Lines.{bits_of, put_in, put_lost, taken_out}
use Rattle.first_load_bits.specs.Ways.{HasLine, line_in, given_up}
use Rattle.first_load_bits.specs.Represents.{Contents, RepresentsEvents, lines_of, first_level, second_level}

-- the word at address a is touched, and answered is whether it was warm
pub record IsTouch (old : Contents) (a : ℕ) (told : Warm) (new : Contents) : Type 0 where
  pub answer : (es : List Event) → RepresentsEvents old es → told ≡ (if warm old.geometry a es then Answer.Warm else Answer.Cold)
  pub history : (es : List Event) → RepresentsEvents old es → ((told ≡ Answer.Warm) ↔ IsWarm old.geometry a es)
  pub stands : (es : List Event) → RepresentsEvents old es → RepresentsEvents new (Touch a ∷ es)
  pub geometry : new.geometry ≡ old.geometry
  pub steps : new.steps ≡ old.steps + 1

-- there is no second level, and of the ways of the set of address a, of which this is the place of the first, number i has
-- its line
pub record IsListed (c : Contents) (a first i : ℕ) : Type 0 where
  pub alone : c.geometry.ways2 ≡ 0
  pub first_is : first ≡ set_of c.geometry (line_of c.geometry a) * c.geometry.ways
  pub within : first + c.geometry.ways ≤ length c.ways
  pub has : HasLine (line_of c.geometry a) i (take (first + c.geometry.ways - first) (drop first c.ways))

-- the bits of a line in its second set
abbrev pub IsBitsBelow : Contents → ℕ → ℕ → Type 0
IsBitsBelow c l bits = bits ≡ bits_of l (lines_of (second_level c) (set_of (second_of c.geometry) l))

-- a cache with other ways on its first level
abbrev pub with_ways : Contents → List Way → Contents
with_ways c ws = record { geometry = c.geometry; steps = c.steps; generation = c.generation; ways = ws; ways_below = c.ways_below }

-- a cache with other ways on its second level
abbrev pub with_ways_below : Contents → List Way → Contents
with_ways_below c ws = record { geometry = c.geometry; steps = c.steps; generation = c.generation; ways = c.ways; ways_below = ws }

-- a line is taken out of the second level
pub record IsTakenBelow (old : Contents) (l : ℕ) (new : Contents) : Type 0 where
  pub same : new ≡ with_ways_below old new.ways_below
  pub lines : (k : ℕ) → k < old.geometry.sets2 → lines_of (second_level new) k ≡ taken_out (second_of old.geometry) l (lines_of (second_level old)) k

-- a way's line is put into the second level
pub record IsPutBelow (old : Contents) (w : Way) (new : Contents) : Type 0 where
  pub same : new ≡ with_ways_below old new.ways_below
  pub lines : (k : ℕ) → k < old.geometry.sets2 → lines_of (second_level new) k ≡ put_in (second_of old.geometry) (line_in old.generation w) (lines_of (second_level old)) k

-- the line that a way gave up for line l, if it gave one up, is put into the second level
pub record IsFallen (old : Contents) (l : ℕ) (w : Way) (new : Contents) : Type 0 where
  pub same : new ≡ with_ways_below old new.ways_below
  pub lines : (k : ℕ) → k < old.geometry.sets2 → lines_of (second_level new) k ≡ put_lost (second_of old.geometry) (given_up old.generation l w) (lines_of (second_level old)) k

-- a line is taken out of the first level
pub record IsTakenListed (old : Contents) (l : ℕ) (new : Contents) : Type 0 where
  pub same : new ≡ with_ways old new.ways
  pub lines : (k : ℕ) → k < old.geometry.sets → lines_of (first_level new) k ≡ taken_out old.geometry l (lines_of (first_level old)) k
