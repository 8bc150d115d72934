use Rattle.race_laws.proofs.Common.{List, Point}
use Rattle.race_laws.proofs.Counts.{ConflictingPair}
use Rattle.race_laws.proofs.edges_are_the_least.Given as goal

-- a set of pairs of instructions names, of a run's points, those pairs of places that conflict and are such instructions
abbrev pub ghosts-edges_are_needed : goal.ghosts-edges_are_needed
ghosts-edges_are_needed g a = record { Name = List Point × g.P.InstructionPairs.Name; has = λ of. ConflictingPair of.0 (g.P.InstructionPairs.has of.1) }
