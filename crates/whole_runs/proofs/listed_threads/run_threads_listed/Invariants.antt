use Rattle.bus_core.specs.Bus.{began_of}
use Rattle.whole_runs.proofs.listed_threads.run_threads_listed.Given as goal

-- the run begins with what is passed, and its list is kept if that is asked for
abbrev pub ghosts-run_named : goal.ghosts-run_named
ghosts-run_named g a = record { began = began_of a.from.now; keeps = a.keeps }
