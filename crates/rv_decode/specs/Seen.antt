-- What a contract sees of an instruction.
use Rattle.rv_decode.specs.declared.instr.Instr.{Instr}
use Rattle.rv_decode.specs.Table.{Instruction}

-- the fields of an instruction, as the table gives them
abbrev pub seen : Instr → Instruction
seen i = record { name = i.name; rd = i.rd; rs1 = i.rs1; rs2 = i.rs2; imm = i.imm; aq = i.aq; rl = i.rl }
