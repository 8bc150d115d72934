-- Vector times: for each hart a number of its points.
use Rattle.std.specs.Prelude.{ℕ, List, slice_index}
use Rattle.vector_time.specs.declared.times.Times.{Times}

-- how many of the hart's points, 0 of a hart that there is none of
abbrev pub count_of : Times → ℕ → ℕ
count_of times hart = slice_index times.counts hart
