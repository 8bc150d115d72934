-- What several files of specs/ and src/ cite of other crates. They import it from here, by one line.
pub use Rattle.bn_base.specs.Programs.{Program, code_at, may_load, may_store}
pub use Rattle.bn_base.specs.Registers.{put_reg}
pub use Rattle.bn_base.specs.declared.fault.Fault.{Fault}
pub use Rattle.bn_base.specs.declared.fault.Fault.TheVariants.{Breakpoint, FetchOutside, Illegal, LoadMisaligned, LoadOutside, StoreMisaligned, StoreOutside, StoreReadOnly, TargetMisaligned}
pub use Rattle.bn_base.specs.declared.row.Row.{Row}
pub use Rattle.bn_base.specs.declared.state.HartState.{HartState}
pub use Rattle.rv_decode.specs.Seen.{seen}
pub use Rattle.rv_decode.specs.Table.{Instruction, decoded}
pub use Rattle.rv_decode.specs.declared.name.Name.{Name}
pub use Rattle.rv_decode.specs.declared.name.Name.TheVariants.{Add, Addi, AmoaddW, AmoandW, AmomaxW, AmomaxuW, AmominW, AmominuW, AmoorW, AmoswapW, AmoxorW, And, Andi, Auipc, Beq, Bge, Bgeu, Blt, Bltu, Bne, Div, Divu, Ebreak, Ecall, Fence, Jal, Jalr, Lb, Lbu, Lh, Lhu, LrW, Lui, Lw, Mul, Mulh, Mulhsu, Mulhu, Or, Ori, Rem, Remu, Sb, ScW, Sh, Sll, Slli, Slt, Slti, Sltiu, Sltu, Sra, Srai, Srl, Srli, Sub, Sw, Xor, Xori}
