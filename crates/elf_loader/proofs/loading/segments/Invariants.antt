use Rattle.elf_loader.proofs.Common.{◌≡◌, ◌≤◌, filter, take, length, is_segment}
use Rattle.elf_loader.proofs.loading.segments.Given as goal

abbrev pub invariant-loop-header : goal.invariant-loop-header
invariant-loop-header l = record {
  taken : l.segments.items ≡ filter is_segment (take l.header-index l.headers);
  count : length l.segments.items ≤ l.header-index;
}
