-- The program that an ELF file gives, or the first refusal.
use Rattle.std.specs.Prelude.{ℕ, ◌==◌, Bool, true, false, not, ◌&&◌, ◌||◌, nat_lt, nat_eq, List, [], ◌∷◌, length, map, find, Option, Some, None, is_none, option_map, Result, Ok, Err}
use Rattle.std.specs.List.{list_any, starts_with}
use Rattle.std.specs.Option.{option_or}
use Rattle.bn_base.specs.declared.settings.RawSettings.{RawSettings}
use Rattle.bn_base.specs.Programs.{Program, code_at}
use Rattle.elf_loader.specs.declared.error.ElfError.{ElfError}
use Rattle.elf_loader.specs.declared.error.ElfError.TheVariants.{NotElf, Truncated, NotRv32, NotStatic, NeedsCompressed, NeedsE, TooMany, Outside, SegmentsTouch, NoSegment, EntryOutside}
use Rattle.elf_loader.specs.declared.file_header.FileHeader.{FileHeader}
use Rattle.elf_loader.specs.declared.program_header.ProgramHeader.{ProgramHeader}
use Rattle.elf_loader.specs.Headers.{file_header, table_end, table}
use Rattle.elf_loader.specs.Segments.{has_flag, segments, file_end, memory_end, share, part_of, by_address}

-- a refusal if a test holds
abbrev pub when : Bool → ElfError → Option ElfError
when true e = Some e
when false e = None

-- the first refusal of several
abbrev pub first_of_all : List (Option ElfError) → Option ElfError
first_of_all [] = None
first_of_all (r ∷ rs) = option_or r (first_of_all rs)

-- the file begins with the magic number 7f 45 4c 46
abbrev pub is_elf : List ℕ → Bool
is_elf bytes = starts_with nat_eq bytes (0x7f ∷ 0x45 ∷ 0x4c ∷ 0x46 ∷ [])

-- the file is 32-bit, little-endian and for RISC-V, with program headers of the standard's size
abbrev pub is_rv32 : FileHeader → Bool
is_rv32 f = (f.class == 1) && (f.encoding == 1) && (f.ident_version == 1) && (f.machine == 243) && (f.version == 1) && ((f.phnum == 0) || (f.phentsize == 32))

-- what is refused of the ELF header: the magic number, the length, the kind of file (2 is an executable at fixed addresses),
-- what it asks of the processor. Then a program header table that is too long or cut off
unfoldable pub header_refusal : List ℕ → Option ElfError
header_refusal bytes = let f = file_header bytes in first_of_all (
    when (not (is_elf bytes)) NotElf
    ∷ when (nat_lt (length bytes) 52) (Truncated 52 (length bytes))
    ∷ when (not (is_rv32 f)) NotRv32
    ∷ when (not (f.kind == 2)) NotStatic
    ∷ when (has_flag f.flags 1) NeedsCompressed
    ∷ when (has_flag f.flags 8) NeedsE
    ∷ when (nat_lt 64 f.phnum) (TooMany f.phnum)
    ∷ when (nat_lt (length bytes) (table_end f)) (Truncated (table_end f) (length bytes))
    ∷ [])

-- a header of type PT_INTERP, 3, asks for a program interpreter
abbrev pub is_interpreter : ProgramHeader → Bool
is_interpreter h = h.kind == 3

-- a segment's bytes aren't all in a file of this length
abbrev pub is_cut_off : ℕ → ProgramHeader → Bool
is_cut_off size h = nat_lt size (file_end h)

-- a segment isn't within the mapped addresses, 4,096 to the memory's size, or has more bytes in the file than in memory
abbrev pub is_outside : ℕ → ProgramHeader → Bool
is_outside memory h = nat_lt h.vaddr 4096 || nat_lt memory (memory_end h) || nat_lt h.memsz h.filesz

-- the first segment that shares a word with a later one, and the first such later one
abbrev pub touching : List ProgramHeader → Option (ProgramHeader × ProgramHeader)
touching [] = None
touching (h ∷ hs) = option_or (option_map (λ g. (h, g)) (find (share h) hs)) (touching hs)

-- what is refused of the segments
unfoldable pub segment_refusal : ℕ → ℕ → List ProgramHeader → Option ElfError
segment_refusal size memory hs = first_of_all (
    option_map (λ h. Truncated (file_end h) size) (find (is_cut_off size) hs)
    ∷ option_map (λ h. Outside h.place) (find (is_outside memory) hs)
    ∷ option_map (λ pair. SegmentsTouch pair.0.place pair.1.place) (touching hs)
    ∷ when (length hs == 0) NoSegment
    ∷ [])

-- the program of a file
unfoldable pub program_of : List ℕ → RawSettings → Program
program_of bytes s = record { parts = map (part_of bytes) (by_address (segments bytes)); entry = (file_header bytes).entry; memory = s.memory; harts = s.harts }

-- a program's first instruction isn't a code word
abbrev pub starts_outside : Program → Bool
starts_outside p = is_none (code_at p p.entry)

-- the first refusal of a file, in order: of its header, of its headers' types, of its segments, of its entry
unfoldable pub refusal : List ℕ → RawSettings → Option ElfError
refusal bytes s = first_of_all (
    header_refusal bytes
    ∷ when (list_any is_interpreter (table bytes)) NotStatic
    ∷ segment_refusal (length bytes) s.memory (segments bytes)
    ∷ when (starts_outside (program_of bytes s)) (EntryOutside (program_of bytes s).entry)
    ∷ [])

-- a program, unless it is refused
abbrev pub unless : Option ElfError → Program → Result Program ElfError
unless None program = Ok program
unless (Some e) program = Err e

-- the image of a file: its program, or the first refusal
unfoldable pub image_of : List ℕ → RawSettings → Result Program ElfError
image_of bytes s = unless (refusal bytes s) (program_of bytes s)
