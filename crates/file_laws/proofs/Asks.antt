-- A hart's states and asks hold words, if the registers and the program do.
use Rattle.file_laws.proofs.Common.{◌≡◌, ℕ, zero, suc, ◌+◌, ◌*◌, ◌/◌, ◌%◌, ◌<◌, ◌^◌, Bool, true, false, List, [], ◌∷◌, set, slice_index, length, refl, ◌∙◌, arith, mod-lt, pow_pos, ◌==◌, not, nat_lt, if◌then◌else◌, Option, Some, None, Program, code_at, may_load, may_store, HartState, TargetMisaligned, LoadOutside, LoadMisaligned, StoreOutside, StoreMisaligned, StoreReadOnly, wrap, add, less, AreWords, Step, Quiet, Asks, ask_of, fetched, executed, meaning, branch, reg, src1, src2, near, there, next_with, next_at, load_or, store_or, AmoOp, Ask, Want, Load, Store, StoreConditional, Amo, System, Faulted}
use Rattle.bn_base.specs.Registers.{put_reg}
use Rattle.rv_decode.specs.Table.{Instruction, decoded}
use Rattle.rv_decode.specs.declared.name.Name.{Name}
use Rattle.rv_decode.specs.declared.name.Name.TheVariants.{Jal, Jalr, Beq, Bne, Blt, Bge, Bltu, Bgeu, Lb, Lh, Lw, Lbu, Lhu, Sb, Sh, Sw, Fence, Ecall, Ebreak, LrW, ScW, AmoswapW, AmoaddW, AmoxorW, AmoandW, AmoorW, AmominW, AmomaxW, AmominuW, AmomaxuW}
use Rattle.rv_meaning.specs.Execute.{step}
use Rattle.rv_meaning.specs.declared.amo.AmoOp.TheVariants as ops
use Rattle.run_laws.proofs.Registers.{put_count}

-- the law of registers that is used here
abbrev pub StepsKeepWords : Type 0
StepsKeepWords = (i : Program) (s t : HartState) → AreWords s.x → step i s ≡ Quiet t → AreWords t.x

-- 32 registers, the first of which holds 0, and a pc of 32 bits
pub record IsFormed (s : HartState) : Type 0 where
  pub pc : s.pc < 2 ^ 32
  pub count : length s.x ≡ 32
  pub zero_first : slice_index s.x 0 ≡ 0

-- the numbers of an ask that its answer or its mark takes in
abbrev pub HoldsWords : Want → Type 0
HoldsWords (Store addr width value) = value < 2 ^ 32
HoldsWords (StoreConditional addr rd value) = value < 2 ^ 32
HoldsWords (Amo addr op rd value) = value < 2 ^ 32
HoldsWords (System number args) = AreWords args
HoldsWords (Faulted kind value) = value < 2 ^ 32
HoldsWords want = Unit {0}

-- ---- registers

set_first : (x : List ℕ) (r v : ℕ) → slice_index (set x (suc r) v) 0 ≡ slice_index x 0
set_first [] r v = refl
set_first (y ∷ x) r v = refl

put_first : (r v : ℕ) (x : List ℕ) → slice_index (put_reg r v x) 0 ≡ slice_index x 0
put_first zero v x = refl
put_first (suc r) v x = set_first x r v

set_words : (x : List ℕ) (i v : ℕ) → v < 2 ^ 32 → AreWords x → (r : ℕ) → slice_index (set x i v) r < 2 ^ 32
set_words [] i v p h r = h r
set_words (y ∷ ys) zero v p h zero = p
set_words (y ∷ ys) zero v p h (suc r) = h (suc r)
set_words (y ∷ ys) (suc i) v p h zero = h zero
set_words (y ∷ ys) (suc i) v p h (suc r) = set_words ys i v p (λ k. h (suc k)) r

pub put_words : (rd v : ℕ) (x : List ℕ) → v < 2 ^ 32 → AreWords x → AreWords (put_reg rd v x)
put_words zero v x p h = h
put_words (suc rd) v x p h = λ r. set_words x (suc rd) v p h r

wrap_word : (n : ℕ) → wrap n < 2 ^ 32
wrap_word n = mod-lt n (pow_pos 32)

-- a register is written, and another instruction is next
written_at : (s : HartState) (pc rd v ic : ℕ) → pc < 2 ^ 32 → IsFormed s → IsFormed (record { pc = pc; x = put_reg rd v s.x; ic = ic })
written_at s pc rd v ic h f = record { pc = h; count = put_count rd v s.x ∙ f.count; zero_first = put_first rd v s.x ∙ f.zero_first }

pub formed_with : (rd v : ℕ) (s : HartState) → IsFormed s → IsFormed (next_with rd v s)
formed_with rd v s f = written_at s (add s.pc 4) rd v _ (wrap_word (s.pc + 4)) f

pub formed_at : (pc : ℕ) (s : HartState) → pc < 2 ^ 32 → IsFormed s → IsFormed (next_at pc s)
formed_at pc s h f = record { pc = h; count = f.count; zero_first = f.zero_first }

pub next_pc : (s : HartState) → add s.pc 4 < 2 ^ 32
next_pc s = wrap_word (s.pc + 4)

-- ---- the instructions

-- a quiet step leaves such a state, and an ask holds words
abbrev pub StepsWell : Step → Type 0
StepsWell (Quiet t) = IsFormed t
StepsWell (Asks w) = HoldsWords w

jump_well : (fits : Bool) (target : ℕ) (t : HartState) → target < 2 ^ 32 → IsFormed t → StepsWell (if fits then Quiet t else Asks (Faulted TargetMisaligned target))
jump_well true target t h f = f
jump_well false target t h f = h

branch_well : (taken : Bool) (target : ℕ) (s : HartState) → target < 2 ^ 32 → IsFormed s → StepsWell (branch taken target s)
branch_well true target s h f = jump_well (target % 4 == 0) target (next_at target s) h (formed_at target s h f)
branch_well false target s h f = formed_at (add s.pc 4) s (next_pc s) f

load_well : (fits mapped : Bool) (addr : ℕ) (w : Want) → addr < 2 ^ 32 → HoldsWords w → HoldsWords (if fits then (if mapped then w else Faulted LoadOutside addr) else Faulted LoadMisaligned addr)
load_well true true addr w h k = k
load_well true false addr w h k = h
load_well false mapped addr w h k = h

store_well : (fits mapped writable : Bool) (addr : ℕ) (w : Want) → addr < 2 ^ 32 → HoldsWords w
    → HoldsWords (if fits then (if mapped then (if writable then w else Faulted StoreReadOnly addr) else Faulted StoreOutside addr) else Faulted StoreMisaligned addr)
store_well true true true addr w h k = k
store_well true true false addr w h k = h
store_well true false writable addr w h k = h
store_well false mapped writable addr w h k = h

jalr_target : (n : ℕ) → n < 2 ^ 32 → n / 2 * 2 < 2 ^ 32
jalr_target n h = omega (arith, h)

three_words : (a b c : ℕ) → a < 2 ^ 32 → b < 2 ^ 32 → c < 2 ^ 32 → AreWords (a ∷ b ∷ c ∷ [])
three_words a b c h k l zero = h
three_words a b c h k l (suc zero) = k
three_words a b c h k l (suc (suc zero)) = l
three_words a b c h k l (suc (suc (suc r))) = omega arith

loads_well : (i : Program) (d : Instruction) (width : ℕ) (signed : Bool) (s : HartState) → HoldsWords (load_or i (there s d) width (Load (there s d) width signed d.rd))
loads_well i d width signed s = load_well (there s d % width == 0) (may_load i (there s d)) (there s d) _ (wrap_word _) tt

stores_well : (i : Program) (d : Instruction) (width : ℕ) (s : HartState) → AreWords s.x → HoldsWords (store_or i (there s d) width (Store (there s d) width (src2 s d)))
stores_well i d width s h = store_well (there s d % width == 0) (may_load i (there s d)) (may_store i (there s d)) (there s d) _ (wrap_word _) (h d.rs2)

amo_well : (i : Program) (d : Instruction) (op : AmoOp) (s : HartState) → AreWords s.x → HoldsWords (store_or i (src1 s d) 4 (Amo (src1 s d) op d.rd (src2 s d)))
amo_well i d op s h = store_well (src1 s d % 4 == 0) (may_load i (src1 s d)) (may_store i (src1 s d)) (src1 s d) _ (h d.rs1) (h d.rs2)

meaning_well : (n : Name) (i : Program) (d : Instruction) (s : HartState) → AreWords s.x → IsFormed s → StepsWell (meaning n i d s)
meaning_well Jal i d s h f = jump_well (near s d % 4 == 0) (near s d) _ (wrap_word _) (written_at s (near s d) d.rd _ _ (wrap_word _) f)
meaning_well Jalr i d s h f =
    let low : there s d / 2 * 2 < 2 ^ 32 = jalr_target (there s d) (wrap_word _) in
    jump_well (there s d / 2 * 2 % 4 == 0) (there s d / 2 * 2) _ low (written_at s (there s d / 2 * 2) d.rd _ _ low f)
meaning_well Beq i d s h f = branch_well (src1 s d == src2 s d) (near s d) s (wrap_word _) f
meaning_well Bne i d s h f = branch_well (not (src1 s d == src2 s d)) (near s d) s (wrap_word _) f
meaning_well Blt i d s h f = branch_well (less (src1 s d) (src2 s d)) (near s d) s (wrap_word _) f
meaning_well Bge i d s h f = branch_well (not (less (src1 s d) (src2 s d))) (near s d) s (wrap_word _) f
meaning_well Bltu i d s h f = branch_well (nat_lt (src1 s d) (src2 s d)) (near s d) s (wrap_word _) f
meaning_well Bgeu i d s h f = branch_well (not (nat_lt (src1 s d) (src2 s d))) (near s d) s (wrap_word _) f
meaning_well Lb i d s h f = loads_well i d 1 true s
meaning_well Lh i d s h f = loads_well i d 2 true s
meaning_well Lw i d s h f = loads_well i d 4 false s
meaning_well Lbu i d s h f = loads_well i d 1 false s
meaning_well Lhu i d s h f = loads_well i d 2 false s
meaning_well Sb i d s h f = stores_well i d 1 s h
meaning_well Sh i d s h f = stores_well i d 2 s h
meaning_well Sw i d s h f = stores_well i d 4 s h
meaning_well Fence i d s h f = formed_at (add s.pc 4) s (next_pc s) f
meaning_well Ecall i d s h f = three_words (reg s 10) (reg s 11) (reg s 12) (h 10) (h 11) (h 12)
meaning_well Ebreak i d s h f = omega arith
meaning_well LrW i d s h f = load_well (src1 s d % 4 == 0) (may_load i (src1 s d)) (src1 s d) _ (h d.rs1) tt
meaning_well ScW i d s h f = store_well (src1 s d % 4 == 0) (may_load i (src1 s d)) (may_store i (src1 s d)) (src1 s d) _ (h d.rs1) (h d.rs2)
meaning_well AmoswapW i d s h f = amo_well i d ops.Swap s h
meaning_well AmoaddW i d s h f = amo_well i d ops.Add s h
meaning_well AmoxorW i d s h f = amo_well i d ops.Xor s h
meaning_well AmoandW i d s h f = amo_well i d ops.And s h
meaning_well AmoorW i d s h f = amo_well i d ops.Or s h
meaning_well AmominW i d s h f = amo_well i d ops.Min s h
meaning_well AmomaxW i d s h f = amo_well i d ops.Max s h
meaning_well AmominuW i d s h f = amo_well i d ops.MinU s h
meaning_well AmomaxuW i d s h f = amo_well i d ops.MaxU s h
meaning_well n i d s h f = formed_with d.rd _ s f

executed_well : (o : Option Instruction) (w : ℕ) (i : Program) (s : HartState) → w < 2 ^ 32 → AreWords s.x → IsFormed s → StepsWell (executed o w i s)
executed_well None w i s k h f = k
executed_well (Some d) w i s k h f = meaning_well d.name i d s h f

-- the code word, if there is one, is a word
abbrev pub HasCode : Option ℕ → Type 0
HasCode None = Unit {0}
HasCode (Some w) = w < 2 ^ 32

fetched_well : (o : Option ℕ) (i : Program) (s : HartState) → HasCode o → AreWords s.x → IsFormed s → StepsWell (fetched o i s)
fetched_well None i s k h f = f.pc
fetched_well (Some w) i s k h f = executed_well (decoded w) w i s k h f

-- ---- the asks

-- what a hart asks next
pub record AsksWell (ask : Ask) : Type 0 where
  pub registers : AreWords ask.state.x
  pub formed : IsFormed ask.state
  pub want : HoldsWords ask.want

abbrev ask_by : Program → ℕ → HartState → Step → Ask
ask_by i n s x = elim x [ Quiet t ↦ ask_of i n t | Asks w ↦ record { state = s; want = w } ]

next_well : (i : Program) (n : ℕ) (s : HartState) (x : Step) → AreWords s.x → IsFormed s → StepsWell x → ((t : HartState) → x ≡ Quiet t → AreWords t.x)
    → ((t : HartState) → AreWords t.x → IsFormed t → AsksWell (ask_of i n t)) → AsksWell (ask_by i n s x)
next_well i n s (Quiet t) h f k words rest = rest t (words t refl) k
next_well i n s (Asks w) h f k words rest = record { registers = h; formed = f; want = k }

pub asks_well : StepsKeepWords → (i : Program) → ((a : ℕ) → HasCode (code_at i a)) → (n : ℕ) (s : HartState) → AreWords s.x → IsFormed s → AsksWell (ask_of i n s)
asks_well keep i code zero s h f = record { registers = h; formed = f; want = tt }
asks_well keep i code (suc n) s h f =
    next_well i n s (step i s) h f (fetched_well (code_at i s.pc) i s (code s.pc) h f) (λ t e. keep i s t h e) (λ t k g. asks_well keep i code n t k g)
