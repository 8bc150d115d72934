use Rattle.elf_loader.proofs.Memory.{holds_segment}
use Rattle.elf_loader.proofs.laws.memory_holds_each_segment.Goals as goal

pub returns : goal.returns
returns c = holds_segment
