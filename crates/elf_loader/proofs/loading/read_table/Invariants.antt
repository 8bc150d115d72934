use Rattle.elf_loader.proofs.Common.{◌≡◌, map, length, range_with_len, header, file_header}
use Rattle.elf_loader.proofs.loading.read_table.Given as goal

abbrev pub invariant-loop-place : goal.invariant-loop-place
invariant-loop-place l = record {
  read : l.headers.items ≡ map (header l.bytes (file_header l.bytes)) (range_with_len 0 l.place);
  count : length l.headers.items ≡ l.place;
}
