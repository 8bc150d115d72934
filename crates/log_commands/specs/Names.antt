-- The names of the files of a command.
use Rattle.std.specs.Prelude.{ℕ, List, []}
use Rattle.log_commands.specs.declared.names.Role.{Role}
use Rattle.log_commands.specs.declared.names.Role.TheVariants.{Elf, Log, Book, Input, Origin}

-- the name of each; empty if the command has none
pub record FileNames : Type 0 where
  pub elf : List ℕ
  pub log : List ℕ
  pub book : List ℕ
  pub input : List ℕ
  pub origin : List ℕ

-- every role has the empty name
abbrev pub no_names : FileNames
no_names = record { elf = []; log = []; book = []; input = []; origin = [] }

-- the name of the file in a role
abbrev pub name_of : FileNames → Role → List ℕ
name_of names Elf = names.elf
name_of names Log = names.log
name_of names Book = names.book
name_of names Input = names.input
name_of names Origin = names.origin
