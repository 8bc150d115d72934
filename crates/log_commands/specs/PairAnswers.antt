-- What is told by a log and a program that were loaded.
use Rattle.std.specs.Prelude.{Result, IfOk}
use Rattle.log_commands.specs.FileCalls.{Note, LoadsTo}
use Rattle.bn_outside.specs.Files.{Stored}
use Rattle.log_commands.specs.Inputs.{OnlyLoads}
use Rattle.log_commands.specs.Names.{FileNames}
use Rattle.log_commands.specs.Outside.{GivesOf, WithFiles}
use Rattle.log_commands.specs.Pairs.{ByPair, pair_roles, IsPair, LoadedPair}
use Rattle.log_commands.specs.Told.{Told}
use Rattle.log_commands.specs.declared.pairs.JointReading.{JointReading}
use Rattle.log_commands.specs.declared.refusal.Refusal.{Refusal}

-- the answer by a log and its program that were loaded
abbrev pub by_reading : ByPair → JointReading → Told
by_reading go r = go r.log r.image

-- LOG and ELF were loaded and read, or why not, and nothing else was done to the store. Whatever is told by the two, it is what a
-- command by a log and its program has to answer
pub record LoadsPair (names : FileNames) (note : Note) (old new : Stored) (result : Result JointReading Refusal) : Type 0 where
  pub told : (go : ByPair) → WithFiles old.files (λ files. GivesOf (by_reading go) names (λ files. IsPair go files names) files result)
  pub loaded : WithFiles old.files (λ files. IfOk result (λ pair. LoadedPair names.log names.elf files pair.log pair.image))
  pub only : OnlyLoads old new result
  pub calls : LoadsTo names pair_roles note old.noted new.noted result
