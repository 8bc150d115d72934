-- The place that a line has in each cache of one geometry.
use Rattle.std.specs.Prelude.{ℕ, ◌*◌, ◌==◌, ◌&&◌}
use Rattle.first_load_bits.specs.declared.cache.LinePlace.{LinePlace}
use Rattle.first_load_bits.specs.Events.{Geometry, line_of, set_of}

-- the line of an address's byte
abbrev pub line_place : Geometry → ℕ → LinePlace
line_place g a = record { line = line_of g a; first = set_of g (line_of g a) * g.ways; usual = g.ways == 4 && (g.ways2 == 0) }
