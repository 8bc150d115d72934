-- What is known of the programs of files, by its name: a proof elsewhere takes it under this.
use Rattle.std.specs.Prelude.{◌≡◌, ◌≤◌, ◌<◌, ◌^◌, ◌+◌, ◌*◌, ◌/◌, ◌↔◌, ℕ, true, false, List, Ok, All, Contains}
use Rattle.std.specs.List.{AllByRecursion}
use Rattle.bn_base.specs.Programs.{Part, Program, IsPart, IsProgram, heap_start}
use Rattle.bn_base.specs.Ranges.{IsSetting}
use Rattle.bn_base.specs.declared.settings.RawSettings.{RawSettings}
use Rattle.le_numbers.specs.Numbers.{AreBytes}
use Rattle.elf_loader.specs.declared.program_header.ProgramHeader.{ProgramHeader}
use Rattle.elf_loader.specs.Segments.{is_segment, segments, memory_end, touches, share}
use Rattle.elf_loader.specs.Loaded.{starts_outside, image_of}
use Rattle.elf_loader.specs.Held.{HoldsSegment, HoldsNothing, highest}

-- a segment touches exactly the aligned words that have one of its bytes
abbrev pub SegmentsTouchTheirWords : Type 0
SegmentsTouchTheirWords = (h : ProgramHeader) (addr : ℕ) → is_segment h ≡ true
    → (touches h addr ≡ true) ↔ ((byte : ℕ) × (h.vaddr ≤ byte) × (byte < memory_end h) × (byte / 4 ≡ addr / 4))

-- two segments share a word if and only if there is one that both touch
abbrev pub SegmentsShareWords : Type 0
SegmentsShareWords = (g h : ProgramHeader) → is_segment g ≡ true → is_segment h ≡ true
    → (share g h ≡ true) ↔ ((addr : ℕ) × (touches g addr ≡ true) × (touches h addr ≡ true))

-- each segment of a file that is loaded is in memory at the address that its header says
abbrev pub MemoryHoldsSegments : Type 0
MemoryHoldsSegments = (bytes : List ℕ) (s : RawSettings) (p : Program) (h : ProgramHeader) (addr : ℕ) → IsSetting s → image_of bytes s ≡ Ok p
    → Contains (segments bytes) h → touches h addr ≡ true → HoldsSegment bytes h p addr

-- at an address of no segment, memory holds nothing of the file
abbrev pub MemoryHoldsNothingElse : Type 0
MemoryHoldsNothingElse = (bytes : List ℕ) (s : RawSettings) (p : Program) (addr : ℕ) → IsSetting s → image_of bytes s ≡ Ok p
    → All (λ h. touches h addr ≡ false) (segments bytes) → HoldsNothing p addr

-- the heap begins at the first page after the highest segment
abbrev pub HeapIsAfterSegments : Type 0
HeapIsAfterSegments = (bytes : List ℕ) (s : RawSettings) (p : Program) → IsSetting s → image_of bytes s ≡ Ok p
    → heap_start p ≡ (highest (segments bytes) + 4095) / 4096 * 4096

-- the words that the file gives of a part have 32 bits
abbrev pub HasWords : Part → Type 0
HasWords p = AllByRecursion (λ w. w < 2 ^ 32) p.words

-- what a program has by its type: parts that lie apart in the mapped addresses, each aligned, with words of 32 bits;
-- and its entry is the address of a code word
pub record IsImage (i : Program) : Type 0 where
  pub program : IsProgram i
  pub parts : AllByRecursion IsPart i.parts
  pub words : AllByRecursion HasWords i.parts
  pub entry : i.entry < 2 ^ 32
  pub code : starts_outside i ≡ false

-- the program of a file's bytes, for settings in range, is one as its type has it
abbrev pub LoadedProgramsAreImages : Type 0
LoadedProgramsAreImages = (bytes : List ℕ) (s : RawSettings) (i : Program) → AreBytes bytes → IsSetting s → image_of bytes s ≡ Ok i → IsImage i
