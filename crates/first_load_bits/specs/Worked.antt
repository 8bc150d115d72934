-- Small histories, and the answers of their touches.
use Rattle.std.specs.Prelude.{ℕ, Bool, List, [], ◌∷◌}
use Rattle.first_load_bits.specs.Events.{Geometry, Event}
use Rattle.first_load_bits.specs.Events.{Touch, Drop, Clear}
use Rattle.first_load_bits.specs.Warm.{warm}

-- whether each touched word was warm just before, for events in order after a history
abbrev pub answers : Geometry → List Event → List Event → List Bool
answers g past [] = []
answers g past (Touch a ∷ es) = warm g a past ∷ answers g (Touch a ∷ past) es
answers g past (Drop a ∷ es) = answers g (Drop a ∷ past) es
answers g past (Clear ∷ es) = answers g (Clear ∷ past) es

-- one set of one line of one word
abbrev pub smallest : Geometry
smallest = record { sets = 1; ways = 1; line = 1; sets2 = 0; ways2 = 0 }

-- two sets of two lines of four words
abbrev pub small : Geometry
small = record { sets = 2; ways = 2; line = 4; sets2 = 0; ways2 = 0 }

-- one set of one line of one word, and a second level of one set of so many lines
abbrev pub with_second : ℕ → Geometry
with_second ways = record { sets = 1; ways = 1; line = 1; sets2 = 1; ways2 = ways }
