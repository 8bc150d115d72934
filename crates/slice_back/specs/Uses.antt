-- What a row uses and what it gives: registers, and aligned words of memory. The formats are those of the RISC-V
-- unprivileged specification, version 20191213.
use Rattle.std.specs.Prelude.{ℕ, ◌==◌, Bool, true, false, not, ◌&&◌, ◌||◌, Option, Some, None}
use Rattle.slice_back.specs.Common.{Row, instruction_in}
use Rattle.rv_decode.specs.Table.{Instruction}
use Rattle.rv_decode.specs.declared.name.Name.{Name}
use Rattle.rv_decode.specs.declared.name.Name.TheVariants.{Beq, Bne, Blt, Bge, Bltu, Bgeu, Jalr, Sb, Sh, Ecall}
use Rattle.rv_meaning.specs.Words.{aligned}
use Rattle.slice_back.specs.declared.noted.Noted.{Noted}

-- ---- registers

-- ECALL
abbrev pub is_call : Name → Bool
is_call Ecall = true
is_call n = false

-- the registers that ECALL hands over: a0, a1, a2 and a7 (section 2.8)
abbrev pub is_argument : ℕ → Bool
is_argument q = (q == 10) || (q == 11) || (q == 12) || (q == 17)

-- whether an instruction reads register q, which isn't x0: q is its rs1 or rs2 (a field that its format lacks is 0), or an
-- argument of an ECALL. A word that is no instruction reads none
abbrev pub reads : ℕ → Option Instruction → Bool
reads q None = false
reads q (Some d) = elim (is_call d.name) [ true ↦ is_argument q | false ↦ (q == d.rs1) || (q == d.rs2) ]

-- whether a row uses register q: x0 is used by none
abbrev pub uses_register : ℕ → Row → Bool
uses_register q r = not (q == 0) && reads q (instruction_in r.word)

-- a register and its value, if there are any, are of register q
abbrev pub is_of : ℕ → Option (ℕ × ℕ) → Bool
is_of q None = false
is_of q (Some x) = x.0 == q

-- whether a row wrote register q
abbrev pub writes_register : ℕ → Row → Bool
writes_register q r = is_of q r.reg

-- ---- words of memory

-- whether an instruction stores a part of a word: a byte or a halfword
abbrev pub is_part_store : Name → Bool
is_part_store Sb = true
is_part_store Sh = true
is_part_store n = false

-- the same of a row's instruction, which may be none
abbrev pub stores_part : Option Instruction → Bool
stores_part None = false
stores_part (Some d) = is_part_store d.name

-- the aligned address of an access
abbrev pub word_of : Option (ℕ × ℕ) → Option ℕ
word_of None = None
word_of (Some x) = Some (aligned x.0)

-- the word of a store, if the test says that it is of a part
abbrev pub part_stored : Bool → Option (ℕ × ℕ) → Option ℕ
part_stored test store = elim test [ true ↦ word_of store | false ↦ None ]

-- the aligned word that a row uses: that of its load or AMO, or of a store of a byte or halfword, which keeps the other
-- bytes. These are the loading accesses
abbrev pub used_word : Row → Option ℕ
used_word r = elim (r.load) [ Some x ↦ Some (aligned x.0) | None ↦ part_stored (stores_part (instruction_in r.word)) r.store ]

-- an aligned address, if there is one, is a
abbrev pub is_word : ℕ → Option ℕ → Bool
is_word a None = false
is_word a (Some b) = a == b

-- whether a row uses the aligned word at a
abbrev pub uses_word : ℕ → Row → Bool
uses_word a r = is_word a (used_word r)

-- whether a row stored the aligned word at a
abbrev pub stores_word : ℕ → Row → Bool
stores_word a r = is_word a (word_of r.store)

-- whether a row took a first load of the aligned word at a
abbrev pub took : Option ℕ → Bool
took None = false
took (Some v) = true

-- whether a row took a first load of the aligned word at a
abbrev pub takes_word : ℕ → Noted → Bool
takes_word a e = took e.first_load && uses_word a e.row

-- ---- branches

-- whether an instruction is a conditional branch or an indirect jump (section 2.5)
abbrev pub is_choice : Name → Bool
is_choice Beq = true
is_choice Bne = true
is_choice Blt = true
is_choice Bge = true
is_choice Bltu = true
is_choice Bgeu = true
is_choice Jalr = true
is_choice n = false

-- the same of a row's instruction, which may be none
abbrev pub chooses : Option Instruction → Bool
chooses None = false
chooses (Some d) = is_choice d.name

-- whether a row is of a conditional branch or jalr
abbrev pub is_branch : Row → Bool
is_branch r = chooses (instruction_in r.word)
