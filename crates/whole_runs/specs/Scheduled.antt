-- The list of a run on the caller's thread, by its schedule.
use Rattle.std.specs.Prelude.{ℕ, List}
use Rattle.bn_outside.specs.declared.schedule.Schedule.{Schedule}
use Rattle.bn_outside.specs.declared.schedule.Schedule.TheVariants.{Drawn, Listed}
use Rattle.bus_core.specs.Bus.{Began}
use Rattle.whole_runs.specs.Drawn.{drawn_of}
use Rattle.whole_runs.specs.Followed.{followed}

-- what the number draws, or the given list as far as it is legal and then that of seed 0
abbrev pub scheduled : Schedule → Began → List ℕ
scheduled (Drawn manner number) b = drawn_of manner b number
scheduled (Listed list) b = followed b list.now
