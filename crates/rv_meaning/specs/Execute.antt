-- What an instruction does, what a hart asks next, and its state after the reply. The sections are those of the
-- RISC-V unprivileged specification, version 20191213.
use Rattle.std.specs.Prelude.{ℕ, zero, suc, ◌+◌, ◌-◌, ◌*◌, ◌/◌, ◌%◌, ◌^◌, ◌==◌, min, nat_lt, Bool, true, false, not, ◌||◌, if◌then◌else◌, [], ◌∷◌, slice_index, bit_and, bit_or, bit_xor, Option, Some, None}
use Rattle.rv_meaning.specs.Common.{Program, code_at, may_load, may_store, put_reg, HartState, Illegal, Breakpoint, FetchOutside, TargetMisaligned, LoadOutside, LoadMisaligned, StoreOutside, StoreMisaligned, StoreReadOnly, Instruction, decoded, Name, Lui, Auipc, Jal, Jalr, Beq, Bne, Blt, Bge, Bltu, Bgeu, Lb, Lh, Lw, Lbu, Lhu, Sb, Sh, Sw, Addi, Slti, Sltiu, Xori, Ori, Andi, Slli, Srli, Srai, Add, Sll, Slt, Sltu, Xor, Srl, Or, And, Sub, Sra, Mul, Mulh, Mulhsu, Mulhu, Div, Divu, Rem, Remu, Fence, Ecall, Ebreak, LrW, ScW, AmoswapW, AmoaddW, AmoxorW, AmoandW, AmoorW, AmominW, AmomaxW, AmominuW, AmomaxuW}
use Rattle.rv_meaning.specs.Words.{add, sub, mul, bits_of, flag, less, shift_left, shift_right, shift_right_signed, high_signed, high_mixed, high_unsigned, div_signed, div_unsigned, rem_signed, rem_unsigned}
use Rattle.rv_meaning.specs.Access.{loaded_value}
use Rattle.rv_meaning.specs.declared.asks.Ask.{Ask}
use Rattle.rv_meaning.specs.declared.asks.Want.{Want}
use Rattle.rv_meaning.specs.declared.asks.Want.TheVariants.{Load, Store, LoadReserved, StoreConditional, Amo, System, Cut, Faulted}
use Rattle.rv_meaning.specs.declared.amo.AmoOp.{AmoOp}
use Rattle.rv_meaning.specs.declared.amo.AmoOp.TheVariants as ops
use Rattle.rv_meaning.specs.declared.asks.Reply.{Reply}
use Rattle.rv_meaning.specs.declared.asks.Reply.TheVariants.{Word, Stored, ScOk, ScFailed, Answer, Over}

-- what the next instruction of a hart is: quiet, with the state after it, or an ask, which leaves the state as it is
pub data Step : Type 0 where
  Quiet : HartState → Step
  Asks : Want → Step

-- ---- the operands

-- the contents of a register
abbrev pub reg : HartState → ℕ → ℕ
reg s r = slice_index s.x r

-- the contents of rs1, of rs2, and the immediate as a word
abbrev pub src1 : HartState → Instruction → ℕ
src1 s d = reg s d.rs1

-- the contents of rs2
abbrev pub src2 : HartState → Instruction → ℕ
src2 s d = reg s d.rs2

-- the immediate as a word
abbrev pub imm : Instruction → ℕ
imm d = bits_of d.imm

-- the target of a jump or branch by an offset from the pc
abbrev pub near : HartState → Instruction → ℕ
near s d = add s.pc (imm d)

-- the address that rs1 and the immediate give
abbrev pub there : HartState → Instruction → ℕ
there s d = add (src1 s d) (imm d)

-- ---- the states after an instruction

-- one instruction more; a count at 2 ^ 64 - 1 stays there
abbrev pub count_up : ℕ → ℕ
count_up n = min (n + 1) (2 ^ 64 - 1)

-- the instruction at a pc is next, and nothing is written
abbrev pub next_at : ℕ → HartState → HartState
next_at pc s = record { pc = pc; x = s.x; ic = count_up s.ic }

-- the following instruction is next, and v is written to rd
abbrev pub next_with : ℕ → ℕ → HartState → HartState
next_with rd v s = record { pc = add s.pc 4; x = put_reg rd v s.x; ic = count_up s.ic }

-- an instruction that computes a value for rd
abbrev pub gives : Instruction → ℕ → HartState → Step
gives d v s = Quiet (next_with d.rd v s)

-- a jump to a target, with the address of the following instruction written to rd. A target that is no multiple of 4
-- faults at the jump, and nothing is written (section 2.5)
abbrev pub jump : Instruction → ℕ → HartState → Step
jump d target s =
    if target % 4 == 0 then Quiet (record { pc = target; x = put_reg d.rd (add s.pc 4) s.x; ic = count_up s.ic })
    else Asks (Faulted TargetMisaligned target)

-- a branch to a target if it is taken; only then the target is tested (section 2.5)
abbrev pub branch : Bool → ℕ → HartState → Step
branch taken target s =
    if taken then (if target % 4 == 0 then Quiet (next_at target s) else Asks (Faulted TargetMisaligned target))
    else Quiet (next_at (add s.pc 4) s)

-- ---- the tests of an access to memory, in their order: alignment, mapping, read-only

-- the want of a load or LR, or its fault
abbrev pub load_or : Program → ℕ → ℕ → Want → Want
load_or i addr width w =
    if addr % width == 0 then (if may_load i addr then w else Faulted LoadOutside addr)
    else Faulted LoadMisaligned addr

-- the want of a store, SC or AMO, or its fault
abbrev pub store_or : Program → ℕ → ℕ → Want → Want
store_or i addr width w =
    if addr % width == 0 then (if may_load i addr then (if may_store i addr then w else Faulted StoreReadOnly addr) else Faulted StoreOutside addr)
    else Faulted StoreMisaligned addr

-- a load asks for its word, or faults if it is misaligned or unmapped
abbrev pub load : Program → Instruction → ℕ → Bool → HartState → Step
load i d width signed s = Asks (load_or i (there s d) width (Load (there s d) width signed d.rd))

-- a store asks to write, or faults if it is misaligned, unmapped or in a read-only part
abbrev pub store : Program → Instruction → ℕ → HartState → Step
store i d width s = Asks (store_or i (there s d) width (Store (there s d) width (src2 s d)))

-- an AMO asks to read and write a word, with the tests of a store
abbrev pub amo : Program → Instruction → AmoOp → HartState → Step
amo i d op s = Asks (store_or i (src1 s d) 4 (Amo (src1 s d) op d.rd (src2 s d)))

-- ---- the instructions, by their names

-- what an instruction does, one clause each, after the RISC-V unprivileged specification: it is local, and gives the next
-- state, or it asks the bus
abbrev pub meaning : Name → Program → Instruction → HartState → Step
-- section 2.4.1: LUI places its immediate in the upper 20 bits of rd, and zeros below; AUIPC adds it to the pc
meaning Lui i d s = gives d (imm d) s
meaning Auipc i d s = gives d (add s.pc (imm d)) s
-- section 2.5.1: JAL jumps by its immediate from the pc; JALR to rs1 plus its immediate, with the lowest bit set to 0
meaning Jal i d s = jump d (near s d) s
meaning Jalr i d s = jump d (there s d / 2 * 2) s
-- section 2.5.2: a branch is taken if rs1 and rs2 are equal, unequal, less or not less, as signed or unsigned numbers
meaning Beq i d s = branch (src1 s d == src2 s d) (near s d) s
meaning Bne i d s = branch (not (src1 s d == src2 s d)) (near s d) s
meaning Blt i d s = branch (less (src1 s d) (src2 s d)) (near s d) s
meaning Bge i d s = branch (not (less (src1 s d) (src2 s d))) (near s d) s
meaning Bltu i d s = branch (nat_lt (src1 s d) (src2 s d)) (near s d) s
meaning Bgeu i d s = branch (not (nat_lt (src1 s d) (src2 s d))) (near s d) s
-- section 2.6: loads and stores of 1, 2 and 4 bytes at rs1 plus the immediate; LB and LH sign-extend
meaning Lb i d s = load i d 1 true s
meaning Lh i d s = load i d 2 true s
meaning Lw i d s = load i d 4 false s
meaning Lbu i d s = load i d 1 false s
meaning Lhu i d s = load i d 2 false s
meaning Sb i d s = store i d 1 s
meaning Sh i d s = store i d 2 s
meaning Sw i d s = store i d 4 s
-- section 2.4.1: an operation on rs1 and the immediate; SLTI and SLTIU place 1 in rd if rs1 is less, else 0
meaning Addi i d s = gives d (add (src1 s d) (imm d)) s
meaning Slti i d s = gives d (flag (less (src1 s d) (imm d))) s
meaning Sltiu i d s = gives d (flag (nat_lt (src1 s d) (imm d))) s
meaning Xori i d s = gives d (bit_xor (src1 s d) (imm d)) s
meaning Ori i d s = gives d (bit_or (src1 s d) (imm d)) s
meaning Andi i d s = gives d (bit_and (src1 s d) (imm d)) s
meaning Slli i d s = gives d (shift_left (src1 s d) (imm d)) s
meaning Srli i d s = gives d (shift_right (src1 s d) (imm d)) s
meaning Srai i d s = gives d (shift_right_signed (src1 s d) (imm d)) s
-- section 2.4.2: an operation on rs1 and rs2; SLT and SLTU place 1 in rd if rs1 is less, else 0
meaning Add i d s = gives d (add (src1 s d) (src2 s d)) s
meaning Sub i d s = gives d (sub (src1 s d) (src2 s d)) s
meaning Slt i d s = gives d (flag (less (src1 s d) (src2 s d))) s
meaning Sltu i d s = gives d (flag (nat_lt (src1 s d) (src2 s d))) s
meaning And i d s = gives d (bit_and (src1 s d) (src2 s d)) s
meaning Or i d s = gives d (bit_or (src1 s d) (src2 s d)) s
meaning Xor i d s = gives d (bit_xor (src1 s d) (src2 s d)) s
meaning Sll i d s = gives d (shift_left (src1 s d) (src2 s d)) s
meaning Srl i d s = gives d (shift_right (src1 s d) (src2 s d)) s
meaning Sra i d s = gives d (shift_right_signed (src1 s d) (src2 s d)) s
-- section 7.1: the lower or the upper 32 bits of the product of rs1 and rs2
meaning Mul i d s = gives d (mul (src1 s d) (src2 s d)) s
meaning Mulh i d s = gives d (high_signed (src1 s d) (src2 s d)) s
meaning Mulhsu i d s = gives d (high_mixed (src1 s d) (src2 s d)) s
meaning Mulhu i d s = gives d (high_unsigned (src1 s d) (src2 s d)) s
-- section 7.2: rs1 divided by rs2, the quotient or the remainder
meaning Div i d s = gives d (div_signed (src1 s d) (src2 s d)) s
meaning Divu i d s = gives d (div_unsigned (src1 s d) (src2 s d)) s
meaning Rem i d s = gives d (rem_signed (src1 s d) (src2 s d)) s
meaning Remu i d s = gives d (rem_unsigned (src1 s d) (src2 s d)) s
-- section 2.7: memory is sequentially consistent, so a FENCE changes nothing
meaning Fence i d s = Quiet (next_at (add s.pc 4) s)
-- section 2.8: ECALL makes a request of the environment, with its number in a7 and its arguments in a0, a1 and a2;
-- EBREAK faults
meaning Ecall i d s = Asks (System (reg s 17) (reg s 10 ∷ reg s 11 ∷ reg s 12 ∷ []))
meaning Ebreak i d s = Asks (Faulted Breakpoint 0)
-- section 8.2: LR.W and SC.W at the address in rs1; SC.W stores rs2
meaning LrW i d s = Asks (load_or i (src1 s d) 4 (LoadReserved (src1 s d) d.rd))
meaning ScW i d s = Asks (store_or i (src1 s d) 4 (StoreConditional (src1 s d) d.rd (src2 s d)))
-- section 8.4: an operation on the word at the address in rs1 and on rs2
meaning AmoswapW i d s = amo i d ops.Swap s
meaning AmoaddW i d s = amo i d ops.Add s
meaning AmoxorW i d s = amo i d ops.Xor s
meaning AmoandW i d s = amo i d ops.And s
meaning AmoorW i d s = amo i d ops.Or s
meaning AmominW i d s = amo i d ops.Min s
meaning AmomaxW i d s = amo i d ops.Max s
meaning AmominuW i d s = amo i d ops.MinU s
meaning AmomaxuW i d s = amo i d ops.MaxU s

-- ---- the next instruction of a hart

-- of the instruction that a word decodes to; a word that decodes to none is illegal
abbrev pub executed : Option Instruction → ℕ → Program → HartState → Step
executed None w i s = Asks (Faulted Illegal w)
executed (Some d) w i s = meaning d.name i d s

-- the instruction of the code word at the pc; a fetch faults if there is no code word there
abbrev pub fetched : Option ℕ → Program → HartState → Step
fetched None i s = Asks (Faulted FetchOutside s.pc)
fetched (Some w) i s = executed (decoded w) w i s

-- the next instruction of a hart: the code word at its pc is fetched, decoded and done
abbrev pub step : Program → HartState → Step
step i s = fetched (code_at i s.pc) i s

-- what a hart asks: its quiet instructions up to the budget, then a cut, or before that the first ask
abbrev pub ask_of : Program → ℕ → HartState → Ask
ask_of i zero s = record { state = s; want = Cut }
ask_of i (suc n) s = elim (step i s) [ Quiet t ↦ ask_of i n t | Asks w ↦ record { state = s; want = w } ]

-- ---- the state after a reply

-- whether the system call of a number ends its hart or the run: exit is 93, exit_group 94
abbrev pub is_exit : ℕ → Bool
is_exit number = (number == 93) || (number == 94)

-- one instruction more if the test holds, else no more
abbrev pub count_up_if : Bool → ℕ → ℕ
count_up_if true n = count_up n
count_up_if false n = n

-- the state after the reply to a want. A reply that isn't one to the want changes nothing
abbrev pub after : Want → Reply → HartState → HartState
after (Load addr width signed rd) (Word w) s = next_with rd (loaded_value addr width signed w) s
after (LoadReserved addr rd) (Word w) s = next_with rd w s
after (Amo addr op rd value) (Word w) s = next_with rd w s
after (Store addr width value) Stored s = next_at (add s.pc 4) s
-- SC.W writes 0 to rd if it stored, else 1 (section 8.2)
after (StoreConditional addr rd value) ScOk s = next_with rd 0 s
after (StoreConditional addr rd value) ScFailed s = next_with rd 1 s
-- the result of a system call goes to a0
after (System number args) (Answer v) s = next_with 10 v s
-- of the calls that Over answers, the ECALL of an exit is counted, and nothing else of the state changes
after (System number args) Over s = record { pc = s.pc; x = s.x; ic = count_up_if (is_exit number) s.ic }
-- after a cut the hart continues as it is, and if a hart is over, it stays as it is
after want reply s = s

-- the hart's state after the reply to its ask
abbrev pub absorbed : Ask → Reply → HartState
absorbed ask reply = after ask.want reply ask.state
