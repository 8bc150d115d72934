-- A hart keeps as many registers as it has.
use Rattle.run_laws.proofs.Common.{◌≡◌, ℕ, zero, suc, ◌/◌, ◌*◌, ◌%◌, Bool, true, false, List, length, refl, ◌∙◌, ◌==◌, not, nat_lt, if◌then◌else◌, Option, Some, None, length-set, Program, code_at, HartState, Step, Quiet, Asks, ask_of, step, fetched, executed, meaning, branch, src1, src2, near, there, next_at, absorbed, Ask, Want, Load, LoadReserved, Store, StoreConditional, Amo, System, Faulted, Reply}
use Rattle.bn_base.specs.Registers.{put_reg}
use Rattle.bn_base.specs.declared.fault.Fault.TheVariants.{TargetMisaligned}
use Rattle.rv_decode.specs.Table.{Instruction, decoded}
use Rattle.rv_decode.specs.declared.name.Name.{Name}
use Rattle.rv_decode.specs.declared.name.Name.TheVariants.{Jal, Jalr, Beq, Bne, Blt, Bge, Bltu, Bgeu, Lb, Lh, Lw, Lbu, Lhu, Sb, Sh, Sw, Fence, Ecall, Ebreak, LrW, ScW, AmoswapW, AmoaddW, AmoxorW, AmoandW, AmoorW, AmominW, AmomaxW, AmominuW, AmomaxuW}
use Rattle.rv_meaning.specs.Words.{add, less}
use Rattle.rv_meaning.specs.Execute.{after}
use Rattle.rv_meaning.specs.declared.asks.Reply.TheVariants as replies

pub put_count : (r v : ℕ) (x : List ℕ) → length (put_reg r v x) ≡ length x
put_count zero v x = refl
put_count (suc r) v x = length-set x (suc r) v

-- ---- quiet instructions

-- a quiet step leaves so many registers
abbrev Leaves : ℕ → Step → Type 0
Leaves n (Quiet t) = length t.x ≡ n
Leaves n (Asks w) = Unit {0}

jump_leaves : (n : ℕ) (fits : Bool) (target : ℕ) (t : HartState) → length t.x ≡ n → Leaves n (if fits then Quiet t else Asks (Faulted TargetMisaligned target))
jump_leaves n true target t e = e
jump_leaves n false target t e = tt

branch_leaves : (taken : Bool) (target : ℕ) (s : HartState) → Leaves (length s.x) (branch taken target s)
branch_leaves true target s = jump_leaves (length s.x) (target % 4 == 0) target (next_at target s) refl
branch_leaves false target s = refl

meaning_leaves : (n : Name) (i : Program) (d : Instruction) (s : HartState) → Leaves (length s.x) (meaning n i d s)
meaning_leaves Jal i d s = jump_leaves (length s.x) (near s d % 4 == 0) (near s d) _ (put_count d.rd (add s.pc 4) s.x)
meaning_leaves Jalr i d s = jump_leaves (length s.x) (there s d / 2 * 2 % 4 == 0) (there s d / 2 * 2) _ (put_count d.rd (add s.pc 4) s.x)
meaning_leaves Beq i d s = branch_leaves (src1 s d == src2 s d) (near s d) s
meaning_leaves Bne i d s = branch_leaves (not (src1 s d == src2 s d)) (near s d) s
meaning_leaves Blt i d s = branch_leaves (less (src1 s d) (src2 s d)) (near s d) s
meaning_leaves Bge i d s = branch_leaves (not (less (src1 s d) (src2 s d))) (near s d) s
meaning_leaves Bltu i d s = branch_leaves (nat_lt (src1 s d) (src2 s d)) (near s d) s
meaning_leaves Bgeu i d s = branch_leaves (not (nat_lt (src1 s d) (src2 s d))) (near s d) s
meaning_leaves Lb i d s = tt
meaning_leaves Lh i d s = tt
meaning_leaves Lw i d s = tt
meaning_leaves Lbu i d s = tt
meaning_leaves Lhu i d s = tt
meaning_leaves Sb i d s = tt
meaning_leaves Sh i d s = tt
meaning_leaves Sw i d s = tt
meaning_leaves Fence i d s = refl
meaning_leaves Ecall i d s = tt
meaning_leaves Ebreak i d s = tt
meaning_leaves LrW i d s = tt
meaning_leaves ScW i d s = tt
meaning_leaves AmoswapW i d s = tt
meaning_leaves AmoaddW i d s = tt
meaning_leaves AmoxorW i d s = tt
meaning_leaves AmoandW i d s = tt
meaning_leaves AmoorW i d s = tt
meaning_leaves AmominW i d s = tt
meaning_leaves AmomaxW i d s = tt
meaning_leaves AmominuW i d s = tt
meaning_leaves AmomaxuW i d s = tt
meaning_leaves n i d s = put_count d.rd _ s.x

executed_leaves : (o : Option Instruction) (w : ℕ) (i : Program) (s : HartState) → Leaves (length s.x) (executed o w i s)
executed_leaves None w i s = tt
executed_leaves (Some d) w i s = meaning_leaves d.name i d s

fetched_leaves : (o : Option ℕ) (i : Program) (s : HartState) → Leaves (length s.x) (fetched o i s)
fetched_leaves None i s = tt
fetched_leaves (Some w) i s = executed_leaves (decoded w) w i s

-- ---- the asking state, and that after the reply

ask_by : (i : Program) (n : ℕ) (s : HartState) (x : Step) → Leaves (length s.x) x → ((t : HartState) → length (ask_of i n t).state.x ≡ length t.x)
    → length (elim x as (λ y. Ask) [ Quiet t ↦ ask_of i n t | Asks w ↦ record { state = s; want = w } ]).state.x ≡ length s.x
ask_by i n s (Quiet t) e rest = rest t ∙ e
ask_by i n s (Asks w) e rest = refl

pub asking_registers : (i : Program) (n : ℕ) (s : HartState) → length (ask_of i n s).state.x ≡ length s.x
asking_registers i zero s = refl
asking_registers i (suc n) s = ask_by i n s (step i s) (fetched_leaves (code_at i s.pc) i s) (λ t. asking_registers i n t)

after_registers : (want : Want) (reply : Reply) (s : HartState) → length (after want reply s).x ≡ length s.x
after_registers (Load addr width signed rd) (replies.Word w) s = put_count rd _ s.x
after_registers (LoadReserved addr rd) (replies.Word w) s = put_count rd _ s.x
after_registers (Amo addr op rd value) (replies.Word w) s = put_count rd _ s.x
after_registers (Store addr width value) replies.Stored s = refl
after_registers (StoreConditional addr rd value) replies.ScOk s = put_count rd _ s.x
after_registers (StoreConditional addr rd value) replies.ScFailed s = put_count rd _ s.x
after_registers (System number args) (replies.Answer v) s = put_count 10 v s.x
after_registers (System number args) replies.Over s = refl
after_registers want reply s = refl

pub absorbed_registers : (ask : Ask) (reply : Reply) → length (absorbed ask reply).x ≡ length ask.state.x
absorbed_registers ask reply = after_registers ask.want reply ask.state
