-- The text of an instruction.
use Rattle.std.specs.Prelude.{ℕ, ◌+◌, ◌/◌, ◌%◌, ◌^◌, Bool, true, false, ℤ, List, [], ◌++◌, codes}
use Rattle.std.specs.Fmt.{signed_decimal, digits}
use Rattle.std.specs.Int.{w32, to_be_bytes, cast_unsigned}
use Rattle.hex.specs.Hex.{encode_lower}
use Rattle.rv_decode.specs.declared.name.Name.{Name}
use Rattle.rv_decode.specs.declared.name.Name.TheVariants.{Jalr, Lb, Lh, Lw, Lbu, Lhu, LrW}
use Rattle.rv_decode.specs.declared.format.Format.{Format}
use Rattle.rv_decode.specs.declared.format.Format.TheVariants.{U, J, I, B, S, Shift, R, Bare, Atomic}
use Rattle.rv_decode.specs.Table.{Instruction}
use Rattle.rv_decode.specs.Encode.{format_of}
use Rattle.rv_text.specs.Names.{register_name, mnemonic, ordering}

-- eight hexadecimal digits
unfoldable pub hex8 : ℕ → List ℕ
hex8 x = encode_lower (to_be_bytes w32 x)

-- the first operand, a register
unfoldable pub first_operand : ℕ → List ℕ
first_operand r = codes " " ++ register_name r

-- a further operand: a register
unfoldable pub register_operand : ℕ → List ℕ
register_operand r = codes "," ++ register_name r

-- ... a number
unfoldable pub number_operand : ℤ → List ℕ
number_operand n = codes "," ++ signed_decimal n

-- ... the memory at an offset from a register
unfoldable pub offset_operand : ℤ → ℕ → List ℕ
offset_operand n r = codes "," ++ signed_decimal n ++ codes "(" ++ register_name r ++ codes ")"

-- ... the memory at a register
unfoldable pub memory_operand : ℕ → List ℕ
memory_operand r = codes ",(" ++ register_name r ++ codes ")"

-- ... the address at an offset from the pc
unfoldable pub target_operand : ℕ → ℤ → List ℕ
target_operand pc n = codes "," ++ hex8 ((pc + cast_unsigned w32 n) % 2 ^ 32)

-- ... the upper 20 bits of a number
unfoldable pub upper_operand : ℤ → List ℕ
upper_operand n = codes ",0x" ++ digits 16 false (cast_unsigned w32 n / 2 ^ 12)

-- an instruction of format I whose immediate is an offset from rs1
abbrev pub is_relative : Name → Bool
is_relative Jalr = true
is_relative Lb = true
is_relative Lh = true
is_relative Lw = true
is_relative Lbu = true
is_relative Lhu = true
is_relative _ = false

-- LR.W, which has an address and no second source
abbrev pub is_load_reserved : Name → Bool
is_load_reserved LrW = true
is_load_reserved _ = false

-- after rd, the operands of format I
abbrev pub immediate_operands : Bool → Instruction → List ℕ
immediate_operands true i = offset_operand i.imm i.rs1
immediate_operands false i = register_operand i.rs1 ++ number_operand i.imm

-- after rd, the operands of an atomic instruction
abbrev pub atomic_operands : Bool → Instruction → List ℕ
atomic_operands true i = memory_operand i.rs1
atomic_operands false i = register_operand i.rs2 ++ memory_operand i.rs1

-- the operands in the order of the assembler
abbrev pub operands : Format → ℕ → Instruction → List ℕ
operands U pc i = first_operand i.rd ++ upper_operand i.imm
operands J pc i = first_operand i.rd ++ target_operand pc i.imm
operands I pc i = first_operand i.rd ++ immediate_operands (is_relative i.name) i
operands B pc i = first_operand i.rs1 ++ register_operand i.rs2 ++ target_operand pc i.imm
operands S pc i = first_operand i.rs2 ++ offset_operand i.imm i.rs1
operands Shift pc i = first_operand i.rd ++ register_operand i.rs1 ++ number_operand i.imm
operands R pc i = first_operand i.rd ++ register_operand i.rs1 ++ register_operand i.rs2
operands Bare pc i = []
operands Atomic pc i = first_operand i.rd ++ atomic_operands (is_load_reserved i.name) i

-- those ahead of the last one
abbrev pub leading_operands : Format → Instruction → List ℕ
leading_operands U i = first_operand i.rd
leading_operands J i = first_operand i.rd
leading_operands I i = first_operand i.rd
leading_operands B i = first_operand i.rs1 ++ register_operand i.rs2
leading_operands S i = first_operand i.rs2
leading_operands Shift i = first_operand i.rd ++ register_operand i.rs1
leading_operands R i = first_operand i.rd ++ register_operand i.rs1
leading_operands Bare i = []
leading_operands Atomic i = first_operand i.rd

-- what follows them
abbrev pub last_operands : Format → ℕ → Instruction → List ℕ
last_operands U pc i = upper_operand i.imm
last_operands J pc i = target_operand pc i.imm
last_operands I pc i = immediate_operands (is_relative i.name) i
last_operands B pc i = target_operand pc i.imm
last_operands S pc i = offset_operand i.imm i.rs1
last_operands Shift pc i = number_operand i.imm
last_operands R pc i = register_operand i.rs2
last_operands Bare pc i = []
last_operands Atomic pc i = atomic_operands (is_load_reserved i.name) i

-- the text of the instruction i at pc
unfoldable pub instruction_text : ℕ → Instruction → List ℕ
instruction_text pc i = mnemonic i.name ++ ordering i.aq i.rl ++ operands (format_of i.name) pc i
