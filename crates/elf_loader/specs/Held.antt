-- What memory holds of a program that was loaded, address by address.
use Rattle.std.specs.Prelude.{ℕ, ◌*◌, ◌/◌, ◌%◌, ◌==◌, ◌≡◌, ◌&&◌, if◌then◌else◌, List, [], ◌∷◌, Some, None, max}
use Rattle.bn_base.specs.Programs.{Program, code_at, first_at, may_load, may_store}
use Rattle.elf_loader.specs.declared.program_header.ProgramHeader.{ProgramHeader}
use Rattle.elf_loader.specs.Segments.{has_flag, memory_end, word_of}

-- the words of a segment have its bytes; they are code with PF_X, and stores may change them with PF_W
pub record HoldsSegment (bytes : List ℕ) (h : ProgramHeader) (p : Program) (addr : ℕ) : Type 0 where
  pub first : first_at p addr ≡ word_of bytes h (4 * (addr / 4))
  pub code : code_at p addr ≡ (if (addr % 4 == 0) && has_flag h.flags 1 then Some (word_of bytes h addr) else None)
  pub store : may_store p addr ≡ has_flag h.flags 2

-- elsewhere all is 0, nothing is code, and stores may change all that is mapped
pub record HoldsNothing (p : Program) (addr : ℕ) : Type 0 where
  pub first : first_at p addr ≡ 0
  pub code : code_at p addr ≡ None
  pub store : may_store p addr ≡ may_load p addr

-- the address after the highest of several segments
abbrev pub highest : List ProgramHeader → ℕ
highest [] = 0
highest (h ∷ hs) = max (memory_end h) (highest hs)
