-- The word of an instruction.
use Rattle.std.specs.Prelude.{ℕ, ◌+◌, ◌*◌, ◌/◌, ◌%◌, ◌^◌, cond}
use Rattle.std.specs.Int.{cast_unsigned, w32}
use Rattle.rv_decode.specs.declared.name.Name.{Name}
use Rattle.rv_decode.specs.declared.name.Name.TheVariants.{Lui, Auipc, Jal, Jalr, Beq, Bne, Blt, Bge, Bltu, Bgeu, Lb, Lh, Lw, Lbu, Lhu, Sb, Sh, Sw, Addi, Slti, Sltiu, Xori, Ori, Andi, Slli, Srli, Srai, Add, Sll, Slt, Sltu, Xor, Srl, Or, And, Sub, Sra, Mul, Mulh, Mulhsu, Mulhu, Div, Divu, Rem, Remu, Fence, Ecall, Ebreak, LrW, ScW, AmoswapW, AmoaddW, AmoxorW, AmoandW, AmoorW, AmominW, AmomaxW, AmominuW, AmomaxuW}
use Rattle.rv_decode.specs.declared.format.Format.{Format}
use Rattle.rv_decode.specs.declared.format.Format.TheVariants.{U, J, I, B, S, Shift, R, Bare, Atomic}
use Rattle.rv_decode.specs.Table.{Instruction}

-- the fixed bits of each instruction, in place
abbrev pub fixed_of : Name → ℕ
fixed_of Lui = 0x37
fixed_of Auipc = 0x17
fixed_of Jal = 0x6f
fixed_of Jalr = 0x67
fixed_of Beq = 0x63
fixed_of Bne = 0x1063
fixed_of Blt = 0x4063
fixed_of Bge = 0x5063
fixed_of Bltu = 0x6063
fixed_of Bgeu = 0x7063
fixed_of Lb = 0x3
fixed_of Lh = 0x1003
fixed_of Lw = 0x2003
fixed_of Lbu = 0x4003
fixed_of Lhu = 0x5003
fixed_of Sb = 0x23
fixed_of Sh = 0x1023
fixed_of Sw = 0x2023
fixed_of Addi = 0x13
fixed_of Slti = 0x2013
fixed_of Sltiu = 0x3013
fixed_of Xori = 0x4013
fixed_of Ori = 0x6013
fixed_of Andi = 0x7013
fixed_of Slli = 0x1013
fixed_of Srli = 0x5013
fixed_of Srai = 0x40005013
fixed_of Add = 0x33
fixed_of Sll = 0x1033
fixed_of Slt = 0x2033
fixed_of Sltu = 0x3033
fixed_of Xor = 0x4033
fixed_of Srl = 0x5033
fixed_of Or = 0x6033
fixed_of And = 0x7033
fixed_of Sub = 0x40000033
fixed_of Sra = 0x40005033
fixed_of Mul = 0x2000033
fixed_of Mulh = 0x2001033
fixed_of Mulhsu = 0x2002033
fixed_of Mulhu = 0x2003033
fixed_of Div = 0x2004033
fixed_of Divu = 0x2005033
fixed_of Rem = 0x2006033
fixed_of Remu = 0x2007033
fixed_of Fence = 0xff0000f
fixed_of Ecall = 0x73
fixed_of Ebreak = 0x100073
fixed_of LrW = 0x1000202f
fixed_of ScW = 0x1800202f
fixed_of AmoswapW = 0x800202f
fixed_of AmoaddW = 0x202f
fixed_of AmoxorW = 0x2000202f
fixed_of AmoandW = 0x6000202f
fixed_of AmoorW = 0x4000202f
fixed_of AmominW = 0x8000202f
fixed_of AmomaxW = 0xa000202f
fixed_of AmominuW = 0xc000202f
fixed_of AmomaxuW = 0xe000202f

-- the format of each instruction
abbrev pub format_of : Name → Format
format_of Lui = U
format_of Auipc = U
format_of Jal = J
format_of Jalr = I
format_of Beq = B
format_of Bne = B
format_of Blt = B
format_of Bge = B
format_of Bltu = B
format_of Bgeu = B
format_of Lb = I
format_of Lh = I
format_of Lw = I
format_of Lbu = I
format_of Lhu = I
format_of Sb = S
format_of Sh = S
format_of Sw = S
format_of Addi = I
format_of Slti = I
format_of Sltiu = I
format_of Xori = I
format_of Ori = I
format_of Andi = I
format_of Slli = Shift
format_of Srli = Shift
format_of Srai = Shift
format_of Add = R
format_of Sll = R
format_of Slt = R
format_of Sltu = R
format_of Xor = R
format_of Srl = R
format_of Or = R
format_of And = R
format_of Sub = R
format_of Sra = R
format_of Mul = R
format_of Mulh = R
format_of Mulhsu = R
format_of Mulhu = R
format_of Div = R
format_of Divu = R
format_of Rem = R
format_of Remu = R
format_of Fence = Bare
format_of Ecall = Bare
format_of Ebreak = Bare
format_of LrW = Atomic
format_of ScW = Atomic
format_of AmoswapW = Atomic
format_of AmoaddW = Atomic
format_of AmoxorW = Atomic
format_of AmoandW = Atomic
format_of AmoorW = Atomic
format_of AmominW = Atomic
format_of AmomaxW = Atomic
format_of AmominuW = Atomic
format_of AmomaxuW = Atomic

-- the immediate as a word, in two's complement
abbrev pub imm_bits : Instruction → ℕ
imm_bits i = cast_unsigned w32 i.imm

-- the bits 11:0 of an immediate of format S, in place
abbrev pub laid_s : ℕ → ℕ
laid_s n = n / 2 ^ 5 * 2 ^ 25 + n % 2 ^ 5 * 2 ^ 7

-- the bits 12:1 of an immediate of format B, in place
abbrev pub laid_b : ℕ → ℕ
laid_b n = n / 2 ^ 12 * 2 ^ 31 + n / 2 ^ 11 % 2 * 2 ^ 7 + n / 2 ^ 5 % 2 ^ 6 * 2 ^ 25 + n / 2 % 2 ^ 4 * 2 ^ 8

-- the bits 20:1 of an immediate of format J, in place
abbrev pub laid_j : ℕ → ℕ
laid_j n = n / 2 ^ 20 * 2 ^ 31 + n / 2 ^ 12 % 2 ^ 8 * 2 ^ 12 + n / 2 ^ 11 % 2 * 2 ^ 20 + n / 2 % 2 ^ 10 * 2 ^ 21

-- the bits of the fields, if the format has them
abbrev pub laid : Format → Instruction → ℕ
laid U i = i.rd * 2 ^ 7 + imm_bits i / 2 ^ 12 * 2 ^ 12
laid J i = i.rd * 2 ^ 7 + laid_j (imm_bits i % 2 ^ 21)
laid I i = i.rd * 2 ^ 7 + i.rs1 * 2 ^ 15 + imm_bits i % 2 ^ 12 * 2 ^ 20
laid B i = i.rs1 * 2 ^ 15 + i.rs2 * 2 ^ 20 + laid_b (imm_bits i % 2 ^ 13)
laid S i = i.rs1 * 2 ^ 15 + i.rs2 * 2 ^ 20 + laid_s (imm_bits i % 2 ^ 12)
laid Shift i = i.rd * 2 ^ 7 + i.rs1 * 2 ^ 15 + imm_bits i % 2 ^ 5 * 2 ^ 20
laid R i = i.rd * 2 ^ 7 + i.rs1 * 2 ^ 15 + i.rs2 * 2 ^ 20
laid Bare i = 0
laid Atomic i = i.rd * 2 ^ 7 + i.rs1 * 2 ^ 15 + i.rs2 * 2 ^ 20 + cond i.aq 1 0 * 2 ^ 26 + cond i.rl 1 0 * 2 ^ 25

-- the word of an instruction
abbrev pub encoded : Instruction → ℕ
encoded i = fixed_of i.name + laid (format_of i.name) i
