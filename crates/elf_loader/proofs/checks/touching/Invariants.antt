use Rattle.elf_loader.proofs.Common.{◌≡◌, drop, touching}
use Rattle.elf_loader.proofs.checks.touching.Given as goal

abbrev pub invariant-loop-i : goal.invariant-loop-i
invariant-loop-i l = touching (drop l.i l.segments) ≡ touching l.segments
