-- A loaded program.
use Rattle.std.specs.Prelude.{ℕ, ◌+◌, ◌-◌, ◌*◌, ◌/◌, ◌%◌, ◌^◌, ◌==◌, ◌≡◌, ◌≤◌, max, Bool, true, false, ◌&&◌, nat_le, nat_lt, List, [], ◌∷◌, length, get_or, Option, Some, None}

-- a segment in whole aligned words: the address of the first, the words that the file gives (those after them are 0), how many words there are, and the permissions
pub record Part : Type 0 where
  pub first : ℕ
  pub words : List ℕ
  pub count : ℕ
  pub executable : Bool
  pub writable : Bool

-- a program: its parts by ascending address, the entry of every hart, the size of the address space, and the number of harts that run it
pub record Program : Type 0 where
  pub parts : List Part
  pub entry : ℕ
  pub memory : ℕ
  pub harts : ℕ

-- the address after a part
abbrev pub end_of : Part → ℕ
end_of p = p.first + 4 * p.count

-- a part is aligned, ends within the addresses, and the file gives no more words than it has
pub record IsPart (p : Part) : Type 0 where
  pub aligned : p.first % 4 ≡ 0
  pub given : length p.words ≤ p.count
  pub within : end_of p ≤ 2 ^ 32

-- parts by ascending address from low to high, no two with a common word
abbrev pub AreApart : ℕ → ℕ → List Part → Type 0
AreApart low high [] = low ≤ high
AreApart low high (p ∷ ps) = (low ≤ p.first) × AreApart (end_of p) high ps

-- a program's parts lie apart in the mapped addresses, 4,096 to the memory's size
pub record IsProgram (i : Program) : Type 0 where
  pub apart : AreApart 4096 i.memory i.parts
  pub memory_low : 65536 ≤ i.memory
  pub memory_high : i.memory ≤ 2 ^ 26
  pub memory_pages : i.memory % 4096 ≡ 0

-- whether an address is in a part
abbrev pub is_in : Part → ℕ → Bool
is_in p a = nat_le p.first a && nat_lt a (end_of p)

-- a part if the test holds, else what the later ones give
abbrev pub part_or : Bool → Part → Option Part → Option Part
part_or true p later = Some p
part_or false p later = later

-- the part that an address is in
abbrev pub part_at : List Part → ℕ → Option Part
part_at [] a = None
part_at (p ∷ ps) a = part_or (is_in p a) p (part_at ps a)

-- a part's word at an address, as it stands before the run
abbrev pub word_in : Part → ℕ → ℕ
word_in p a = get_or p.words ((a - p.first) / 4) 0

-- the code word at an address of a part, if the part is executable
abbrev pub code_in : Option Part → ℕ → Option ℕ
code_in None a = None
code_in (Some p) a = elim p.executable [ true ↦ Some (word_in p a) | false ↦ None ]

-- the code word at an address: there is one at the aligned addresses of executable parts
abbrev pub code_at : Program → ℕ → Option ℕ
code_at i a = elim (a % 4 == 0) [ true ↦ code_in (part_at i.parts a) a | false ↦ None ]

-- the word that a part gives at an address, 0 if there is no part
abbrev pub first_in : Option Part → ℕ → ℕ
first_in None a = 0
first_in (Some p) a = word_in p a

-- the aligned word of an address, as it stands before the run
abbrev pub first_at : Program → ℕ → ℕ
first_at i a = first_in (part_at i.parts a) a

-- a load is allowed at the mapped addresses, 4,096 to the memory's size
abbrev pub may_load : Program → ℕ → Bool
may_load i a = nat_le 4096 a && nat_lt a i.memory

-- whether an address in this part, or in none, may be stored to
abbrev pub is_writable : Option Part → Bool
is_writable None = true
is_writable (Some p) = p.writable

-- a store is allowed at the mapped addresses that are in no read-only part
abbrev pub may_store : Program → ℕ → Bool
may_store i a = may_load i a && is_writable (part_at i.parts a)

-- the end of the highest part
abbrev pub highest_end : List Part → ℕ
highest_end [] = 0
highest_end (p ∷ ps) = max (end_of p) (highest_end ps)

-- the end of the last read-only part, 0 if there is none
abbrev pub read_only_end : List Part → ℕ
read_only_end [] = 0
read_only_end (p ∷ ps) = elim p.writable [ true ↦ read_only_end ps | false ↦ max (end_of p) (read_only_end ps) ]

-- the heap begins at the first page after the highest part
abbrev pub heap_start : Program → ℕ
heap_start i = (highest_end i.parts + 4095) / 4096 * 4096

-- the heap may grow up to 65,536 bytes for each hart before the end of memory
abbrev pub heap_limit : Program → ℕ
heap_limit i = max (heap_start i) (i.memory - 65536 * i.harts)
