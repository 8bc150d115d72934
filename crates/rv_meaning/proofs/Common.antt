-- What several files of proofs/ cite of other crates and of specs/. They import it from here, by one line.
pub use Rattle.std.proofs.Common.{Bool, Err, IfSome, List, None, Ok, OnErr, Option, Result, Some, [], ap, arith, bit_and, bit_or, cond, div-le_self, eq-eqb, eqb-true, false, if◌then◌else◌, inl, inr, int_div, int_rem, is_some, length, length-append, min, mod-lt, mul-le-mul, nat_le, nat_lt, neg_ℤ, negsuc, not, pos, pow-add, pow_pos, refl, rules, set, slice_index, slice_index_or, subst, suc, sym, true, unsigned_abs, w64, zero, ℕ, ℤ, ◌%◌, ◌&&◌, ◌*ℤ◌, ◌*◌, ◌++◌, ◌+◌, ◌-◌, ◌/◌, ◌<◌, ◌==◌, ◌^◌, ◌||◌, ◌∙◌, ◌∷◌, ◌≡◌, ◌≤◌, ◌⊎◌}
pub use Rattle.std.proofs.Math.Nat.{mod-le, mul-sub, mul_comm, pow-le-pow_right}
pub use Rattle.std.proofs.lemmas.Int.{of_z-to_z, to_z-of_z, unsigned_abs-mul}
pub use Rattle.std.proofs.lemmas.Nat.{and-not, and_comm, and_mask, mod-pow-add, or_block, or_comm, or_of_32, or_shifted, shl_below, shl_whole, shr_below, shr_split, xor_of_32}
pub use Rattle.std.specs.Int.{cast_unsigned, int_shr, rotate_right, w32}
pub use Rattle.std.specs.Int.Bits.{and_lt, or_zero_r}
pub use Rattle.std.proofs.lemmas.Bool.{and_from}
pub use Rattle.bn_base.specs.Programs.{AreApart, Part, Program, code_at, code_in, end_of, is_in, may_load, may_store, part_at, part_or}
pub use Rattle.bn_base.specs.Registers.{put_reg}
pub use Rattle.bn_base.specs.declared.fault.Fault.TheVariants.{LoadMisaligned, LoadOutside, StoreMisaligned, StoreOutside, StoreReadOnly, TargetMisaligned}
pub use Rattle.bn_base.specs.declared.state.HartState.{HartState}
pub use Rattle.rv_decode.specs.Seen.{seen}
pub use Rattle.rv_decode.specs.Table.{Instruction, Row, decoded, field, row_in, signed, spelled, spelled_by, table}
pub use Rattle.rv_decode.specs.declared.name.Name.{Name}
pub use Rattle.rv_decode.specs.declared.name.Name.TheVariants.{Add, Addi, AmoaddW, AmoandW, AmomaxW, AmomaxuW, AmominW, AmominuW, AmoorW, AmoswapW, AmoxorW, And, Andi, Auipc, Beq, Bge, Bgeu, Blt, Bltu, Bne, Div, Divu, Ebreak, Ecall, Fence, Jal, Jalr, Lb, Lbu, Lh, Lhu, LrW, Lui, Lw, Mul, Mulh, Mulhsu, Mulhu, Or, Ori, Rem, Remu, Sb, ScW, Sh, Sll, Slli, Slt, Slti, Sltiu, Sltu, Sra, Srai, Srl, Srli, Sub, Sw, Xor, Xori}
pub use Rattle.rv_meaning.specs.Ahead.{LeadsTo, Walking}
pub use Rattle.rv_meaning.specs.Execute.{Asks, Quiet, Step, amo, ask_of, branch, count_up, executed, fetched, imm, jump, load_or, meaning, near, src1, src2, step, store_or, there}
pub use Rattle.rv_meaning.specs.Held.{IsCode}
pub use Rattle.rv_meaning.specs.Ops.{Asking, Done, IsAhead, IsBelowEnd, IsOp, Quietly, Says, is_done, is_known, is_on, pc_of}
pub use Rattle.rv_meaning.specs.Orderly.{is_aligned, is_counted, is_cut, orderly, passes}
pub use Rattle.rv_meaning.specs.Rows.{instruction_at, instruction_in}
pub use Rattle.rv_meaning.specs.Told.{Told}
pub use Rattle.rv_meaning.specs.Words.{add, bits_of, div_signed, div_unsigned, flag, high_mixed, high_of, high_signed, high_unsigned, less, rem_signed, rem_unsigned, shift_right, shift_right_signed, signed_of, with_bytes, wrap}
pub use Rattle.rv_meaning.specs.declared.asks.Ask.{Ask}
pub use Rattle.rv_meaning.specs.declared.asks.Want.{Want}
pub use Rattle.rv_meaning.specs.declared.asks.Want.TheVariants.{Amo, Cut, Faulted, Load, LoadReserved, Store, StoreConditional}
pub use Rattle.rv_meaning.specs.declared.ops.Op.{Op}
