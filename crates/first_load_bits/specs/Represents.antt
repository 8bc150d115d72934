-- What a cache keeps, and the histories that it represents.
use Rattle.std.specs.Prelude.{ℕ, ◌+◌, ◌*◌, ◌<◌, ◌≡◌, List, [], ◌∷◌, take, drop}
use Rattle.bn_base.specs.declared.settings.RawSettings.{RawSettings}
use Rattle.first_load_bits.specs.declared.way.Way.{Way}
use Rattle.first_load_bits.specs.Events.{Geometry, Event, second_of}
use Rattle.first_load_bits.specs.Events.{Touch, Drop, Clear}
use Rattle.first_load_bits.specs.Lines.{Line, lines, lines_below}
use Rattle.first_load_bits.specs.Ways.{latest_first}

-- the geometry that the settings ask for
abbrev pub geometry_of : RawSettings → Geometry
geometry_of s = record { sets = s.sets; ways = s.ways; line = s.line; sets2 = s.sets2; ways2 = s.ways2 }

-- the number of touches and clears
abbrev pub steps_of : List Event → ℕ
steps_of [] = 0
steps_of (Touch a ∷ es) = steps_of es + 1
steps_of (Drop a ∷ es) = steps_of es
steps_of (Clear ∷ es) = steps_of es + 1

-- what a level of a cache keeps: its geometry, how many touches and clears there were, and the number of the latest clear among
-- them. Then the ways of all its sets, those of a set side by side
pub record Level : Type 0 where
  pub geometry : Geometry
  pub steps : ℕ
  pub generation : ℕ
  pub ways : List Way

-- the ways of set k
abbrev pub ways_of : Level → ℕ → List Way
ways_of v k = take v.geometry.ways (drop (k * v.geometry.ways) v.ways)

-- the lines that set k lists: the one touched latest comes first, or on the second level the one that fell latest
abbrev pub lines_of : Level → ℕ → List Line
lines_of v k = latest_first v.generation v.steps (ways_of v k)

-- what a cache keeps: the same with the ways of both its levels
pub record Contents : Type 0 where
  pub geometry : Geometry
  pub steps : ℕ
  pub generation : ℕ
  pub ways : List Way
  pub ways_below : List Way

-- the value that a look-up gives if there is no cache
abbrev pub no_contents : Contents
no_contents = record { geometry = record { sets = 0; ways = 0; line = 0; sets2 = 0; ways2 = 0 }; steps = 0; generation = 0; ways = []; ways_below = [] }

-- the first level by itself
abbrev pub first_level : Contents → Level
first_level c = record { geometry = c.geometry; steps = c.steps; generation = c.generation; ways = c.ways }

-- the second level by itself
abbrev pub second_level : Contents → Level
second_level c = record { geometry = second_of c.geometry; steps = c.steps; generation = c.generation; ways = c.ways_below }

-- the cache represents the events, given latest first: each of its sets lists the lines that they lead to
pub record RepresentsEvents (c : Contents) (es : List Event) : Type 0 where
  pub steps : c.steps ≡ steps_of es
  pub sets : (k : ℕ) → k < c.geometry.sets → lines_of (first_level c) k ≡ lines c.geometry k es
  pub sets_below : (k : ℕ) → k < c.geometry.sets2 → lines_of (second_level c) k ≡ lines_below c.geometry k es
