use Rattle.elf_loader.proofs.Memory.{holds_nothing}
use Rattle.elf_loader.proofs.laws.memory_holds_nothing_else.Goals as goal

pub returns : goal.returns
returns c = holds_nothing
