use Rattle.elf_loader.proofs.Common.{◌≡◌, map, take, part_of}
use Rattle.elf_loader.proofs.loading.parts.Given as goal

abbrev pub invariant-loop-header : goal.invariant-loop-header
invariant-loop-header l = l.parts.items ≡ map (part_of l.bytes) (take l.header-index l.headers)
