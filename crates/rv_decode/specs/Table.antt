-- The table of RV32IMA, what a word decodes to, and the fields of a word. The sections are those of the
-- RISC-V unprivileged specification, version 20191213.
use Rattle.std.specs.Prelude.{ℕ, ◌+◌, ◌-◌, ◌*◌, ◌/◌, ◌%◌, ◌^◌, ◌==◌, nat_lt, Bool, true, false, cond, List, [], ◌∷◌, ℤ, pos, negsuc, bit_and, IsTrue, ◌≡◌, ◌<◌}
use Rattle.std.specs.Prelude.{Option, Some, None}
use Rattle.std.specs.Int.{cast_signed, w32}
use Rattle.rv_decode.specs.declared.name.Name.{Name}
use Rattle.rv_decode.specs.declared.name.Name.TheVariants.{Lui, Auipc, Jal, Jalr, Beq, Bne, Blt, Bge, Bltu, Bgeu, Lb, Lh, Lw, Lbu, Lhu, Sb, Sh, Sw, Addi, Slti, Sltiu, Xori, Ori, Andi, Slli, Srli, Srai, Add, Sll, Slt, Sltu, Xor, Srl, Or, And, Sub, Sra, Mul, Mulh, Mulhsu, Mulhu, Div, Divu, Rem, Remu, Fence, Ecall, Ebreak, LrW, ScW, AmoswapW, AmoaddW, AmoxorW, AmoandW, AmoorW, AmominW, AmomaxW, AmominuW, AmomaxuW}
use Rattle.rv_decode.specs.declared.format.Format.{Format}
use Rattle.rv_decode.specs.declared.format.Format.TheVariants.{U, J, I, B, S, Shift, R, Bare, Atomic}

-- a row of the table: the bits that it fixes, their values, the name, and how the fields lie
pub record Row : Type 0 where
  pub mask : ℕ
  pub fixed : ℕ
  pub name : Name
  pub format : Format

-- the row with these parts
abbrev pub row : ℕ → ℕ → Name → Format → Row
row m v n f = record { mask = m; fixed = v; name = n; format = f }

-- the word w has the bits that the row fixes
abbrev pub fits : Row → ℕ → Bool
fits r w = bit_and w r.mask == r.fixed

-- the instructions of RV32I, M and A, each with its encoding as listed in chapter 24
abbrev pub table : List Row
table =
    -- section 2.4.1, integer register-immediate instructions: the constants
    row 0x7f 0x37 Lui U ∷
    row 0x7f 0x17 Auipc U ∷
    -- section 2.5.1, unconditional jumps
    row 0x7f 0x6f Jal J ∷
    row 0x707f 0x67 Jalr I ∷
    -- section 2.5.2, conditional branches
    row 0x707f 0x63 Beq B ∷
    row 0x707f 0x1063 Bne B ∷
    row 0x707f 0x4063 Blt B ∷
    row 0x707f 0x5063 Bge B ∷
    row 0x707f 0x6063 Bltu B ∷
    row 0x707f 0x7063 Bgeu B ∷
    -- section 2.6, load and store instructions
    row 0x707f 0x3 Lb I ∷
    row 0x707f 0x1003 Lh I ∷
    row 0x707f 0x2003 Lw I ∷
    row 0x707f 0x4003 Lbu I ∷
    row 0x707f 0x5003 Lhu I ∷
    row 0x707f 0x23 Sb S ∷
    row 0x707f 0x1023 Sh S ∷
    row 0x707f 0x2023 Sw S ∷
    -- section 2.4.1, integer register-immediate instructions
    row 0x707f 0x13 Addi I ∷
    row 0x707f 0x2013 Slti I ∷
    row 0x707f 0x3013 Sltiu I ∷
    row 0x707f 0x4013 Xori I ∷
    row 0x707f 0x6013 Ori I ∷
    row 0x707f 0x7013 Andi I ∷
    row 0xfe00707f 0x1013 Slli Shift ∷
    row 0xfe00707f 0x5013 Srli Shift ∷
    row 0xfe00707f 0x40005013 Srai Shift ∷
    -- section 2.4.2, integer register-register operations
    row 0xfe00707f 0x33 Add R ∷
    row 0xfe00707f 0x1033 Sll R ∷
    row 0xfe00707f 0x2033 Slt R ∷
    row 0xfe00707f 0x3033 Sltu R ∷
    row 0xfe00707f 0x4033 Xor R ∷
    row 0xfe00707f 0x5033 Srl R ∷
    row 0xfe00707f 0x6033 Or R ∷
    row 0xfe00707f 0x7033 And R ∷
    row 0xfe00707f 0x40000033 Sub R ∷
    row 0xfe00707f 0x40005033 Sra R ∷
    -- section 7.1, multiplication operations
    row 0xfe00707f 0x2000033 Mul R ∷
    row 0xfe00707f 0x2001033 Mulh R ∷
    row 0xfe00707f 0x2002033 Mulhsu R ∷
    row 0xfe00707f 0x2003033 Mulhu R ∷
    -- section 7.2, division operations
    row 0xfe00707f 0x2004033 Div R ∷
    row 0xfe00707f 0x2005033 Divu R ∷
    row 0xfe00707f 0x2006033 Rem R ∷
    row 0xfe00707f 0x2007033 Remu R ∷
    -- section 2.7, memory ordering instructions
    row 0x707f 0xf Fence Bare ∷
    -- section 2.8, environment call and breakpoints
    row 0xffffffff 0x73 Ecall Bare ∷
    row 0xffffffff 0x100073 Ebreak Bare ∷
    -- section 8.2, load-reserved and store-conditional
    row 0xf9f0707f 0x1000202f LrW Atomic ∷
    row 0xf800707f 0x1800202f ScW Atomic ∷
    -- section 8.4, atomic memory operations
    row 0xf800707f 0x800202f AmoswapW Atomic ∷
    row 0xf800707f 0x202f AmoaddW Atomic ∷
    row 0xf800707f 0x2000202f AmoxorW Atomic ∷
    row 0xf800707f 0x6000202f AmoandW Atomic ∷
    row 0xf800707f 0x4000202f AmoorW Atomic ∷
    row 0xf800707f 0x8000202f AmominW Atomic ∷
    row 0xf800707f 0xa000202f AmomaxW Atomic ∷
    row 0xf800707f 0xc000202f AmominuW Atomic ∷
    row 0xf800707f 0xe000202f AmomaxuW Atomic ∷
    []

-- no word has the fixed bits of both rows
abbrev pub NoWordFitsBoth : Row → Row → Type 0
NoWordFitsBoth r s = (w : ℕ) → IsTrue (fits r w) → IsTrue (fits s w) → ⊥

-- the first row that w fits
abbrev pub row_in : List Row → ℕ → Option Row
row_in [] w = None
row_in (r ∷ rs) w = elim (fits r w) [ true ↦ Some r | false ↦ row_in rs w ]

-- an instruction with its fields
pub record Instruction : Type 0 where
  pub name : Name
  pub rd : ℕ
  pub rs1 : ℕ
  pub rs2 : ℕ
  pub imm : ℤ
  pub aq : Bool
  pub rl : Bool

-- the k bits n as a number in two's complement
abbrev pub signed : ℕ → ℕ → ℤ
signed k n = cond (nat_lt n (2 ^ (k - 1))) (pos n) (negsuc (2 ^ k - 1 - n))

-- the k bits of w from bit lo on
abbrev pub field : ℕ → ℕ → ℕ → ℕ
field lo k w = w / 2 ^ lo % 2 ^ k

-- the destination register, bits 11 to 7 (section 2.2)
abbrev pub rd_of : ℕ → ℕ
rd_of w = field 7 5 w

-- the first source register, bits 19 to 15 (section 2.2)
abbrev pub rs1_of : ℕ → ℕ
rs1_of w = field 15 5 w

-- the second source register, bits 24 to 20 (section 2.2)
abbrev pub rs2_of : ℕ → ℕ
rs2_of w = field 20 5 w

-- the immediate of format I: inst[31:20] (section 2.3, as the four below)
abbrev pub imm_i : ℕ → ℤ
imm_i w = signed 12 (field 20 12 w)

-- the immediate of format S: inst[31:25], inst[11:7]
abbrev pub imm_s : ℕ → ℤ
imm_s w = signed 12 (field 25 7 w * 2 ^ 5 + field 7 5 w)

-- the immediate of format B: inst[31], inst[7], inst[30:25], inst[11:8], 0
abbrev pub imm_b : ℕ → ℤ
imm_b w = signed 13 (field 31 1 w * 2 ^ 12 + field 7 1 w * 2 ^ 11 + field 25 6 w * 2 ^ 5 + field 8 4 w * 2)

-- the immediate of format U: inst[31:12], then 12 zeros
abbrev pub imm_u : ℕ → ℤ
imm_u w = cast_signed w32 (field 12 20 w * 2 ^ 12)

-- the immediate of format J: inst[31], inst[19:12], inst[20], inst[30:21], 0
abbrev pub imm_j : ℕ → ℤ
imm_j w = signed 21 (field 31 1 w * 2 ^ 20 + field 12 8 w * 2 ^ 12 + field 20 1 w * 2 ^ 11 + field 21 10 w * 2)

-- whether a bit is set
abbrev pub is_one : ℕ → Bool
is_one n = n == 1

-- the instruction n with the fields of w; a field that the format lacks is 0 or false
abbrev pub spelled : Name → Format → ℕ → Instruction
spelled n U w = record { name = n; rd = rd_of w; rs1 = 0; rs2 = 0; imm = imm_u w; aq = false; rl = false }
spelled n J w = record { name = n; rd = rd_of w; rs1 = 0; rs2 = 0; imm = imm_j w; aq = false; rl = false }
spelled n I w = record { name = n; rd = rd_of w; rs1 = rs1_of w; rs2 = 0; imm = imm_i w; aq = false; rl = false }
spelled n B w = record { name = n; rd = 0; rs1 = rs1_of w; rs2 = rs2_of w; imm = imm_b w; aq = false; rl = false }
spelled n S w = record { name = n; rd = 0; rs1 = rs1_of w; rs2 = rs2_of w; imm = imm_s w; aq = false; rl = false }
-- the shift amount lies in the bits of rs2 (section 2.4.1)
spelled n Shift w = record { name = n; rd = rd_of w; rs1 = rs1_of w; rs2 = 0; imm = pos (rs2_of w); aq = false; rl = false }
spelled n R w = record { name = n; rd = rd_of w; rs1 = rs1_of w; rs2 = rs2_of w; imm = pos 0; aq = false; rl = false }
spelled n Bare w = record { name = n; rd = 0; rs1 = 0; rs2 = 0; imm = pos 0; aq = false; rl = false }
-- bit 26 is aq and bit 25 rl (section 8.1)
spelled n Atomic w = record { name = n; rd = rd_of w; rs1 = rs1_of w; rs2 = rs2_of w; imm = pos 0; aq = is_one (field 26 1 w); rl = is_one (field 25 1 w) }

-- the instruction of the row, with the fields of w
abbrev pub spelled_by : Option Row → ℕ → Option Instruction
spelled_by None w = None
spelled_by (Some r) w = Some (spelled r.name r.format w)

-- what a word decodes to
abbrev pub decoded : ℕ → Option Instruction
decoded w = spelled_by (row_in table w) w

-- some word decodes to the instruction
abbrev pub IsSpelled : Instruction → Type 0
IsSpelled i = (w : ℕ) × (w < 2 ^ 32) × (decoded w ≡ Some i)
