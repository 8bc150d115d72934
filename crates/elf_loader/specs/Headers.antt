-- The fields of an ELF file, at the offsets that the standard gives them (ELF, "ELF Header" and "Program Header").
use Rattle.std.specs.Prelude.{ℕ, ◌+◌, ◌*◌, List, map, slice_index}
use Rattle.std.specs.List.{range_with_len}
use Rattle.le_numbers.specs.Numbers.{number_at}
use Rattle.elf_loader.specs.declared.file_header.FileHeader.{FileHeader}
use Rattle.elf_loader.specs.declared.program_header.ProgramHeader.{ProgramHeader}

-- the ELF header
abbrev pub file_header : List ℕ → FileHeader
file_header bytes = record {
  class = slice_index bytes 4;
  encoding = slice_index bytes 5;
  ident_version = slice_index bytes 6;
  kind = number_at 2 16 bytes;
  machine = number_at 2 18 bytes;
  version = number_at 4 20 bytes;
  entry = number_at 4 24 bytes;
  phoff = number_at 4 28 bytes;
  flags = number_at 4 36 bytes;
  phentsize = number_at 2 42 bytes;
  phnum = number_at 2 44 bytes;
}

-- the program header that begins at a byte of the file, with its place in the table
abbrev pub header_at : List ℕ → ℕ → ℕ → ProgramHeader
header_at bytes at place = record {
  place = place;
  kind = number_at 4 at bytes;
  offset = number_at 4 (at + 4) bytes;
  vaddr = number_at 4 (at + 8) bytes;
  filesz = number_at 4 (at + 16) bytes;
  memsz = number_at 4 (at + 20) bytes;
  flags = number_at 4 (at + 24) bytes;
}

-- the offset after the program header table in the file: it has `phnum` headers of 32 bytes
abbrev pub table_end : FileHeader → ℕ
table_end f = f.phoff + 32 * f.phnum

-- the program header at a place of the table
abbrev pub header : List ℕ → FileHeader → ℕ → ProgramHeader
header bytes f place = header_at bytes (f.phoff + 32 * place) place

-- the program header table
unfoldable pub table : List ℕ → List ProgramHeader
table bytes = map (header bytes (file_header bytes)) (range_with_len 0 (file_header bytes).phnum)
