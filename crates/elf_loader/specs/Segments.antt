-- Segments: what a program header says of memory (ELF, "Program Header" and "Program Loading").
use Rattle.std.specs.Prelude.{ℕ, ◌+◌, ◌-◌, ◌*◌, ◌/◌, ◌%◌, ◌^◌, ◌≤◌, ◌==◌, Bool, ◌&&◌, nat_le, nat_lt, if◌then◌else◌}
use Rattle.std.specs.Prelude.{List, [], ◌∷◌, map, filter, find, is_some, slice_index, bit_and}
use Rattle.std.specs.List.{range_with_len}
use Rattle.le_numbers.specs.Numbers.{number_at}
use Rattle.bn_base.specs.Programs.{Part}
use Rattle.elf_loader.specs.declared.program_header.ProgramHeader.{ProgramHeader}
use Rattle.elf_loader.specs.Headers.{table}

-- whether the bits of a mask are all set
abbrev pub has_flag : ℕ → ℕ → Bool
has_flag flags mask = bit_and flags mask == mask

-- a segment is a header of type PT_LOAD, 1, with a size in memory above 0
abbrev pub is_segment : ProgramHeader → Bool
is_segment h = (h.kind == 1) && nat_lt 0 h.memsz

-- the segments of a file, in the order of the table
unfoldable pub segments : List ℕ → List ProgramHeader
segments bytes = filter is_segment (table bytes)

-- the offset after a segment's bytes in the file
abbrev pub file_end : ProgramHeader → ℕ
file_end h = h.offset + h.filesz

-- the address after a segment in memory
abbrev pub memory_end : ProgramHeader → ℕ
memory_end h = h.vaddr + h.memsz

-- what loading a segment needs: the file has its bytes, memory has room for them, and it ends by 2 ^ 26
pub record IsLoadable (size : ℕ) (h : ProgramHeader) : Type 0 where
  pub inside : file_end h ≤ size
  pub sizes : h.filesz ≤ h.memsz
  pub within : memory_end h ≤ 2 ^ 26

-- how many aligned words have one of the `size` bytes from an address on
abbrev pub words_touched : ℕ → ℕ → ℕ
words_touched addr size = if size == 0 then 0 else ((addr % 4 + size + 3) / 4)

-- the first aligned word that a segment touches, words being counted from address 0
abbrev pub first_word : ProgramHeader → ℕ
first_word h = h.vaddr / 4

-- the first aligned word after those that a segment touches
abbrev pub word_after : ProgramHeader → ℕ
word_after h = first_word h + words_touched h.vaddr h.memsz

-- whether a segment touches the aligned word that an address is in
abbrev pub touches : ProgramHeader → ℕ → Bool
touches h addr = nat_le (first_word h) (addr / 4) && nat_lt (addr / 4) (word_after h)

-- whether the words of a segment are code, and an address is in one of them
abbrev pub has_code : ℕ → ProgramHeader → Bool
has_code addr h = has_flag h.flags 1 && touches h addr

-- whether an address is that of a code word of some segments
abbrev pub is_code : List ProgramHeader → ℕ → Bool
is_code hs addr = (addr % 4 == 0) && is_some (find (has_code addr) hs)

-- whether two segments share an aligned word
abbrev pub share : ProgramHeader → ProgramHeader → Bool
share g h = nat_lt (first_word g) (word_after h) && nat_lt (first_word h) (word_after g)

-- the byte at an address as a segment gives it: one of the file's, or 0 if the file has none
abbrev pub byte_in : List ℕ → ProgramHeader → ℕ → ℕ
byte_in bytes h addr = if nat_le h.vaddr addr && nat_lt addr (h.vaddr + h.filesz) then slice_index bytes (h.offset + (addr - h.vaddr)) else 0

-- the word of the four bytes from an address on, the least significant first
abbrev pub word_of : List ℕ → ProgramHeader → ℕ → ℕ
word_of bytes h addr = number_at 4 0 (byte_in bytes h addr ∷ byte_in bytes h (addr + 1) ∷ byte_in bytes h (addr + 2) ∷ byte_in bytes h (addr + 3) ∷ [])

-- the words from the segment's first on that have a byte of the file
unfoldable pub file_words : List ℕ → ProgramHeader → List ℕ
file_words bytes h = map (λ k. word_of bytes h (4 * (first_word h + k))) (range_with_len 0 (words_touched h.vaddr h.filesz))

-- the segment in whole aligned words, of which the file gives those that have one of its bytes; executable
-- with PF_X, 1, and writable with PF_W, 2
abbrev pub part_of : List ℕ → ProgramHeader → Part
part_of bytes h = record {
  first = 4 * first_word h;
  words = file_words bytes h;
  count = words_touched h.vaddr h.memsz;
  executable = has_flag h.flags 1;
  writable = has_flag h.flags 2;
}

-- a segment put before the first of a list that doesn't begin below it
abbrev pub before_higher : ProgramHeader → List ProgramHeader → List ProgramHeader
before_higher h [] = h ∷ []
before_higher h (g ∷ gs) = if nat_le h.vaddr g.vaddr then h ∷ g ∷ gs else (g ∷ before_higher h gs)

-- segments by ascending address
abbrev pub by_address : List ProgramHeader → List ProgramHeader
by_address [] = []
by_address (h ∷ hs) = before_higher h (by_address hs)
