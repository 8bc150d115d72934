-- What an instruction depends on, and what it changes.
use Rattle.slice_back.proofs.Common.{◌≡◌, ℕ, zero, suc, ◌*◌, ◌/◌, ◌%◌, ◌==◌, ◌⊎◌, nat_lt, Bool, true, false, not, List, [], ◌∷◌, length, Option, Some, None, refl, sym, ◌∙◌, ap, subst, inl, inr, arith, bit_and, bit_or, set, slice_index, bit_xor, if◌then◌else◌, Program, may_load, may_store, put_reg, HartState, LoadOutside, LoadMisaligned, StoreOutside, StoreMisaligned, StoreReadOnly, TargetMisaligned, Instruction, Name, add, sub, mul, flag, less, shift_left, shift_right, shift_right_signed, high_signed, high_mixed, high_unsigned, div_signed, div_unsigned, rem_signed, rem_unsigned, Step, Quiet, Asks, reg, src1, src2, imm, near, there, next_at, next_with, count_up, jump, branch, load_or, store_or, load, store, amo, meaning, Want, Load, Store, LoadReserved, StoreConditional, Amo, System, Cut, Faulted, written, is_call, is_part_store}
use Rattle.rv_decode.specs.declared.name.Name.TheVariants.{Lui, Auipc, Jal, Jalr, Beq, Bne, Blt, Bge, Bltu, Bgeu, Lb, Lh, Lw, Lbu, Lhu, Sb, Sh, Sw, Addi, Slti, Sltiu, Xori, Ori, Andi, Slli, Srli, Srai, Add, Sll, Slt, Sltu, Xor, Srl, Or, And, Sub, Sra, Mul, Mulh, Mulhsu, Mulhu, Div, Divu, Rem, Remu, Fence, Ecall, Ebreak, LrW, ScW, AmoswapW, AmoaddW, AmoxorW, AmoandW, AmoorW, AmominW, AmomaxW, AmominuW, AmomaxuW}
use Rattle.rv_meaning.specs.Execute.{gives}
use Rattle.rv_meaning.specs.declared.amo.AmoOp.{AmoOp}
use Rattle.rv_meaning.specs.declared.amo.AmoOp.TheVariants as ops

-- ---- what an instruction is, by its name

-- whether an instruction has no rd
abbrev pub writes_none : Name → Bool
writes_none Beq = true
writes_none Bne = true
writes_none Blt = true
writes_none Bge = true
writes_none Bltu = true
writes_none Bgeu = true
writes_none Sb = true
writes_none Sh = true
writes_none Sw = true
writes_none Fence = true
writes_none n = false

-- the registers after a quiet instruction: one is written, rd, or none
abbrev pub Changed : Instruction → HartState → HartState → Type 0
Changed d s t = ((y : ℕ) × (t.x ≡ put_reg d.rd y s.x)) ⊎ (t.x ≡ s.x)

-- an ask of an instruction: the register that it names is rd, a store has none, and SB and SH alone store a part of a word
abbrev pub AskShape : Name → Instruction → Want → Type 0
AskShape n d (Load a w signed rd) = (rd ≡ d.rd) × (is_call n ≡ false)
AskShape n d (LoadReserved a rd) = (rd ≡ d.rd) × (is_call n ≡ false)
AskShape n d (Amo a o rd y) = (rd ≡ d.rd) × (is_call n ≡ false)
AskShape n d (Store a w y) = ((d.rd == 0) ≡ true) × (is_call n ≡ false) × (is_part_store n ≡ not (w == 4))
AskShape n d (StoreConditional a rd y) = (rd ≡ d.rd) × (is_call n ≡ false) × (is_part_store n ≡ false)
AskShape n d (System m args) = is_call n ≡ true
AskShape n d Cut = ⊥
AskShape n d (Faulted f y) = Unit {0}

abbrev pub Shape : Name → Instruction → HartState → Step → Type 0
Shape n d s (Quiet t) = (is_call n ≡ false) × Changed d s t
Shape n d s (Asks k) = AskShape n d k

gives_changed : (d : Instruction) (y : ℕ) (s : HartState) → Changed d s (next_with d.rd y s)
gives_changed d y s = inl (y, refl)

jump_shape : (n : Name) (d : Instruction) (target : ℕ) (s : HartState) → is_call n ≡ false → Shape n d s (jump d target s)
jump_shape n d target s e = by (target % 4 == 0)
  where
    by : (b : Bool) → Shape n d s (if b then Quiet (record { pc = target; x = put_reg d.rd (add s.pc 4) s.x; ic = count_up s.ic }) else Asks (Faulted TargetMisaligned target))
    by true = (e, inl (add s.pc 4, refl))
    by false = tt

branch_shape : (n : Name) (d : Instruction) (taken : Bool) (target : ℕ) (s : HartState) → is_call n ≡ false → Shape n d s (branch taken target s)
branch_shape n d false target s e = (e, inr refl)
branch_shape n d true target s e = by (target % 4 == 0)
  where
    by : (b : Bool) → Shape n d s (if b then Quiet (next_at target s) else Asks (Faulted TargetMisaligned target))
    by true = (e, inr refl)
    by false = tt

load_or_shape : (n : Name) (d : Instruction) (i : Program) (a width : ℕ) (k : Want) → AskShape n d k → AskShape n d (load_or i a width k)
load_or_shape n d i a width k h = by (a % width == 0) (may_load i a)
  where
    by : (b c : Bool) → AskShape n d (if b then (if c then k else Faulted LoadOutside a) else Faulted LoadMisaligned a)
    by true true = h
    by true false = tt
    by false c = tt

store_or_shape : (n : Name) (d : Instruction) (i : Program) (a width : ℕ) (k : Want) → AskShape n d k → AskShape n d (store_or i a width k)
store_or_shape n d i a width k h = by (a % width == 0) (may_load i a) (may_store i a)
  where
    by : (b c o : Bool) → AskShape n d (if b then (if c then (if o then k else Faulted StoreReadOnly a) else Faulted StoreOutside a) else Faulted StoreMisaligned a)
    by true true true = h
    by true true false = tt
    by true false o = tt
    by false c o = tt

load_shape : (n : Name) (i : Program) (d : Instruction) (width : ℕ) (signed : Bool) (s : HartState) → is_call n ≡ false → Shape n d s (load i d width signed s)
load_shape n i d width signed s e = load_or_shape n d i (there s d) width (Load (there s d) width signed d.rd) (refl, e)

store_shape : (n : Name) (i : Program) (d : Instruction) (width : ℕ) (s : HartState) → is_call n ≡ false → (d.rd == 0) ≡ true → is_part_store n ≡ not (width == 4) → Shape n d s (store i d width s)
store_shape n i d width s e z p = store_or_shape n d i (there s d) width (Store (there s d) width (src2 s d)) (z, e, p)

amo_shape : (n : Name) (i : Program) (d : Instruction) (op : AmoOp) (s : HartState) → is_call n ≡ false → Shape n d s (amo i d op s)
amo_shape n i d op s e = store_or_shape n d i (src1 s d) 4 (Amo (src1 s d) op d.rd (src2 s d)) (refl, e)

reserved_shape : (i : Program) (d : Instruction) (s : HartState) → Shape LrW d s (meaning LrW i d s)
reserved_shape i d s = load_or_shape LrW d i (src1 s d) 4 (LoadReserved (src1 s d) d.rd) (refl, refl)

conditional_shape : (i : Program) (d : Instruction) (s : HartState) → Shape ScW d s (meaning ScW i d s)
conditional_shape i d s = store_or_shape ScW d i (src1 s d) 4 (StoreConditional (src1 s d) d.rd (src2 s d)) (refl, refl, refl)

pub shape : (n : Name) (i : Program) (d : Instruction) (s : HartState) → (writes_none n ≡ true → (d.rd == 0) ≡ true) → Shape n d s (meaning n i d s)
shape Lui i d s z = (refl, gives_changed d _ s)
shape Auipc i d s z = (refl, gives_changed d _ s)
shape Jal i d s z = jump_shape Jal d _ s refl
shape Jalr i d s z = jump_shape Jalr d _ s refl
shape Beq i d s z = branch_shape Beq d ((src1 s d) == (src2 s d)) (near s d) s refl
shape Bne i d s z = branch_shape Bne d (not ((src1 s d) == (src2 s d))) (near s d) s refl
shape Blt i d s z = branch_shape Blt d (less (src1 s d) (src2 s d)) (near s d) s refl
shape Bge i d s z = branch_shape Bge d (not (less (src1 s d) (src2 s d))) (near s d) s refl
shape Bltu i d s z = branch_shape Bltu d (nat_lt (src1 s d) (src2 s d)) (near s d) s refl
shape Bgeu i d s z = branch_shape Bgeu d (not (nat_lt (src1 s d) (src2 s d))) (near s d) s refl
shape Lb i d s z = load_shape Lb i d 1 true s refl
shape Lh i d s z = load_shape Lh i d 2 true s refl
shape Lw i d s z = load_shape Lw i d 4 false s refl
shape Lbu i d s z = load_shape Lbu i d 1 false s refl
shape Lhu i d s z = load_shape Lhu i d 2 false s refl
shape Sb i d s z = store_shape Sb i d 1 s refl (z refl) refl
shape Sh i d s z = store_shape Sh i d 2 s refl (z refl) refl
shape Sw i d s z = store_shape Sw i d 4 s refl (z refl) refl
shape Addi i d s z = (refl, gives_changed d _ s)
shape Slti i d s z = (refl, gives_changed d _ s)
shape Sltiu i d s z = (refl, gives_changed d _ s)
shape Xori i d s z = (refl, gives_changed d _ s)
shape Ori i d s z = (refl, gives_changed d _ s)
shape Andi i d s z = (refl, gives_changed d _ s)
shape Slli i d s z = (refl, gives_changed d _ s)
shape Srli i d s z = (refl, gives_changed d _ s)
shape Srai i d s z = (refl, gives_changed d _ s)
shape Add i d s z = (refl, gives_changed d _ s)
shape Sll i d s z = (refl, gives_changed d _ s)
shape Slt i d s z = (refl, gives_changed d _ s)
shape Sltu i d s z = (refl, gives_changed d _ s)
shape Xor i d s z = (refl, gives_changed d _ s)
shape Srl i d s z = (refl, gives_changed d _ s)
shape Or i d s z = (refl, gives_changed d _ s)
shape And i d s z = (refl, gives_changed d _ s)
shape Sub i d s z = (refl, gives_changed d _ s)
shape Sra i d s z = (refl, gives_changed d _ s)
shape Mul i d s z = (refl, gives_changed d _ s)
shape Mulh i d s z = (refl, gives_changed d _ s)
shape Mulhsu i d s z = (refl, gives_changed d _ s)
shape Mulhu i d s z = (refl, gives_changed d _ s)
shape Div i d s z = (refl, gives_changed d _ s)
shape Divu i d s z = (refl, gives_changed d _ s)
shape Rem i d s z = (refl, gives_changed d _ s)
shape Remu i d s z = (refl, gives_changed d _ s)
shape Fence i d s z = (refl, inr refl)
shape Ecall i d s z = refl
shape Ebreak i d s z = tt
shape LrW i d s z = reserved_shape i d s
shape ScW i d s z = conditional_shape i d s
shape AmoswapW i d s z = amo_shape AmoswapW i d ops.Swap s refl
shape AmoaddW i d s z = amo_shape AmoaddW i d ops.Add s refl
shape AmoxorW i d s z = amo_shape AmoxorW i d ops.Xor s refl
shape AmoandW i d s z = amo_shape AmoandW i d ops.And s refl
shape AmoorW i d s z = amo_shape AmoorW i d ops.Or s refl
shape AmominW i d s z = amo_shape AmominW i d ops.Min s refl
shape AmomaxW i d s z = amo_shape AmomaxW i d ops.Max s refl
shape AmominuW i d s z = amo_shape AmominuW i d ops.MinU s refl
shape AmomaxuW i d s z = amo_shape AmomaxuW i d ops.MaxU s refl

-- ---- two states in which an instruction does the same

-- the next instruction gives rd the same contents, or asks the same
abbrev pub AlikeSteps : Instruction → Step → Step → Type 0
AlikeSteps d (Quiet t) (Quiet u) = written (Some d) t ≡ written (Some d) u
AlikeSteps d (Asks k) (Asks j) = k ≡ j
AlikeSteps d (Quiet t) (Asks j) = ⊥
AlikeSteps d (Asks k) (Quiet u) = ⊥

-- the operands are the same
pub record SameOperands (d : Instruction) (s t : HartState) : Type 0 where
  pub pc : s.pc ≡ t.pc
  pub first : src1 s d ≡ src1 t d
  pub second : src2 s d ≡ src2 t d
  pub count : length s.x ≡ length t.x

-- a place that is written in lists of one length
set_same : (r y : ℕ) (x z : List ℕ) → length x ≡ length z → slice_index (set x r y) r ≡ slice_index (set z r y) r
set_same r y [] [] e = refl
set_same r y [] (b ∷ z) e = absurd (omega (arith, e))
set_same r y (a ∷ x) [] e = absurd (omega (arith, e))
set_same zero y (a ∷ x) (b ∷ z) e = refl
set_same (suc r) y (a ∷ x) (b ∷ z) e = set_same r y x z (omega (arith, e))

put_same : (r y : ℕ) (x z : List ℕ) → length x ≡ length z → (r == 0) ≡ false → slice_index (put_reg r y x) r ≡ slice_index (put_reg r y z) r
put_same zero y x z e f = absurd cc
put_same (suc r) y x z e f = set_same (suc r) y x z e

-- the contents of rd after it is written
pub written_put : (d : Instruction) (y : ℕ) (s t u v : HartState) → length s.x ≡ length t.x → u.x ≡ put_reg d.rd y s.x → v.x ≡ put_reg d.rd y t.x → written (Some d) u ≡ written (Some d) v
written_put d y s t u v e p q = by (d.rd == 0) refl
  where
    by : (b : Bool) → (d.rd == 0) ≡ b → (elim b as (λ c. Option (ℕ × ℕ)) [ true ↦ None | false ↦ Some (d.rd, slice_index u.x d.rd) ]) ≡ (elim b as (λ c. Option (ℕ × ℕ)) [ true ↦ None | false ↦ Some (d.rd, slice_index v.x d.rd) ])
    by true f = refl
    by false f = ap (λ n. Some (d.rd, n)) (ap (λ x. slice_index x d.rd) p ∙ put_same d.rd y s.x t.x e f ∙ sym (ap (λ x. slice_index x d.rd) q))

-- an instruction without rd writes none
pub written_none : (d : Instruction) (u v : HartState) → (d.rd == 0) ≡ true → written (Some d) u ≡ written (Some d) v
written_none d u v z =
    ap (λ b. elim b as (λ c. Option (ℕ × ℕ)) [ true ↦ None | false ↦ Some (d.rd, slice_index u.x d.rd) ]) z
    ∙ sym (ap (λ b. elim b as (λ c. Option (ℕ × ℕ)) [ true ↦ None | false ↦ Some (d.rd, slice_index v.x d.rd) ]) z)

gives_same : (d : Instruction) (y z : ℕ) (s t : HartState) → length s.x ≡ length t.x → y ≡ z → AlikeSteps d (gives d y s) (gives d z t)
gives_same d y z s t e f = subst (λ (n : ℕ). AlikeSteps d (gives d y s) (gives d n t)) f (written_put d y s t (next_with d.rd y s) (next_with d.rd y t) e refl refl)

two_same : (d : Instruction) (s t : HartState) → SameOperands d s t → (f : ℕ → ℕ → ℕ) → AlikeSteps d (gives d (f (src1 s d) (src2 s d)) s) (gives d (f (src1 t d) (src2 t d)) t)
two_same d s t h f = gives_same d (f (src1 s d) (src2 s d)) (f (src1 t d) (src2 t d)) s t h.count (ap (λ a. f a (src2 s d)) h.first ∙ ap (λ b. f (src1 t d) b) h.second)

asks_same : (d : Instruction) (s t : HartState) → SameOperands d s t → (f : ℕ → ℕ → Want) → AlikeSteps d (Asks (f (src1 s d) (src2 s d))) (Asks (f (src1 t d) (src2 t d)))
asks_same d s t h f = ap (λ a. f a (src2 s d)) h.first ∙ ap (λ b. f (src1 t d) b) h.second

jump_same : (d : Instruction) (a b : ℕ) (s t : HartState) → SameOperands d s t → a ≡ b → AlikeSteps d (jump d a s) (jump d b t)
jump_same d a b s t h e = subst (λ (n : ℕ). AlikeSteps d (jump d a s) (jump d n t)) e (by (a % 4 == 0))
  where
    by : (c : Bool) → AlikeSteps d (if c then Quiet (record { pc = a; x = put_reg d.rd (add s.pc 4) s.x; ic = count_up s.ic }) else Asks (Faulted TargetMisaligned a))
        (if c then Quiet (record { pc = a; x = put_reg d.rd (add t.pc 4) t.x; ic = count_up t.ic }) else Asks (Faulted TargetMisaligned a))
    by true = subst (λ (n : ℕ). AlikeSteps d (Quiet (record { pc = a; x = put_reg d.rd (add s.pc 4) s.x; ic = count_up s.ic })) (Quiet (record { pc = a; x = put_reg d.rd (add n 4) t.x; ic = count_up t.ic }))) h.pc
        (written_put d (add s.pc 4) s t (record { pc = a; x = put_reg d.rd (add s.pc 4) s.x; ic = count_up s.ic }) (record { pc = a; x = put_reg d.rd (add s.pc 4) t.x; ic = count_up t.ic }) h.count refl refl)
    by false = refl

branch_same : (d : Instruction) (s t : HartState) → SameOperands d s t → (f : ℕ → ℕ → Bool) → (d.rd == 0) ≡ true → AlikeSteps d (branch (f (src1 s d) (src2 s d)) (near s d) s) (branch (f (src1 t d) (src2 t d)) (near t d) t)
branch_same d s t h f z =
    subst (λ (n : ℕ). AlikeSteps d (branch (f (src1 s d) (src2 s d)) (near s d) s) (branch (f (src1 t d) (src2 t d)) (add n (imm d)) t)) h.pc
    (subst (λ (c : Bool). AlikeSteps d (branch (f (src1 s d) (src2 s d)) (near s d) s) (branch c (near s d) t)) (ap (λ a. f a (src2 s d)) h.first ∙ ap (λ b. f (src1 t d) b) h.second) (by (f (src1 s d) (src2 s d))))
  where
    target : (c : Bool) → AlikeSteps d (if c then Quiet (next_at (near s d) s) else Asks (Faulted TargetMisaligned (near s d))) (if c then Quiet (next_at (near s d) t) else Asks (Faulted TargetMisaligned (near s d)))
    target true = written_none d (next_at (near s d) s) (next_at (near s d) t) z
    target false = refl

    by : (c : Bool) → AlikeSteps d (branch c (near s d) s) (branch c (near s d) t)
    by true = target (near s d % 4 == 0)
    by false = written_none d (next_at (add s.pc 4) s) (next_at (add t.pc 4) t) z

-- the arguments of a system call are the same
abbrev pub SameArguments : HartState → HartState → Type 0
SameArguments s t = (reg s 17 ≡ reg t 17) × (reg s 10 ≡ reg t 10) × (reg s 11 ≡ reg t 11) × (reg s 12 ≡ reg t 12)

call_same : (d : Instruction) (i : Program) (s t : HartState) → SameArguments s t → AlikeSteps d (meaning Ecall i d s) (meaning Ecall i d t)
call_same d i s t h =
    ap (λ n. System n (reg s 10 ∷ reg s 11 ∷ reg s 12 ∷ [])) h.0
    ∙ ap (λ a. System (reg t 17) (a ∷ reg s 11 ∷ reg s 12 ∷ [])) h.1
    ∙ ap (λ a. System (reg t 17) (reg t 10 ∷ a ∷ reg s 12 ∷ [])) h.2
    ∙ ap (λ a. System (reg t 17) (reg t 10 ∷ reg t 11 ∷ a ∷ [])) h.3

pub alike : (n : Name) (i : Program) (d : Instruction) (s t : HartState) → (writes_none n ≡ true → (d.rd == 0) ≡ true) → (is_call n ≡ false → SameOperands d s t) → (is_call n ≡ true → SameArguments s t) → AlikeSteps d (meaning n i d s) (meaning n i d t)
alike Lui i d s t z h c = two_same d s t (h refl) (λ a b. imm d)
alike Auipc i d s t z h c = gives_same d (add s.pc (imm d)) (add t.pc (imm d)) s t (h refl).count (ap (λ p. add p (imm d)) (h refl).pc)
alike Jal i d s t z h c = jump_same d (near s d) (near t d) s t (h refl) (ap (λ p. add p (imm d)) (h refl).pc)
alike Jalr i d s t z h c = jump_same d (there s d / 2 * 2) (there t d / 2 * 2) s t (h refl) (ap (λ a. add a (imm d) / 2 * 2) (h refl).first)
alike Beq i d s t z h c = branch_same d s t (h refl) (λ a b. a == b) (z refl)
alike Bne i d s t z h c = branch_same d s t (h refl) (λ a b. not (a == b)) (z refl)
alike Blt i d s t z h c = branch_same d s t (h refl) (λ a b. less a b) (z refl)
alike Bge i d s t z h c = branch_same d s t (h refl) (λ a b. not (less a b)) (z refl)
alike Bltu i d s t z h c = branch_same d s t (h refl) (λ a b. nat_lt a b) (z refl)
alike Bgeu i d s t z h c = branch_same d s t (h refl) (λ a b. not (nat_lt a b)) (z refl)
alike Lb i d s t z h c = asks_same d s t (h refl) (λ a b. load_or i (add a (imm d)) 1 (Load (add a (imm d)) 1 true d.rd))
alike Lh i d s t z h c = asks_same d s t (h refl) (λ a b. load_or i (add a (imm d)) 2 (Load (add a (imm d)) 2 true d.rd))
alike Lw i d s t z h c = asks_same d s t (h refl) (λ a b. load_or i (add a (imm d)) 4 (Load (add a (imm d)) 4 false d.rd))
alike Lbu i d s t z h c = asks_same d s t (h refl) (λ a b. load_or i (add a (imm d)) 1 (Load (add a (imm d)) 1 false d.rd))
alike Lhu i d s t z h c = asks_same d s t (h refl) (λ a b. load_or i (add a (imm d)) 2 (Load (add a (imm d)) 2 false d.rd))
alike Sb i d s t z h c = asks_same d s t (h refl) (λ a b. store_or i (add a (imm d)) 1 (Store (add a (imm d)) 1 b))
alike Sh i d s t z h c = asks_same d s t (h refl) (λ a b. store_or i (add a (imm d)) 2 (Store (add a (imm d)) 2 b))
alike Sw i d s t z h c = asks_same d s t (h refl) (λ a b. store_or i (add a (imm d)) 4 (Store (add a (imm d)) 4 b))
alike Addi i d s t z h c = two_same d s t (h refl) (λ a b. add a (imm d))
alike Slti i d s t z h c = two_same d s t (h refl) (λ a b. flag (less a (imm d)))
alike Sltiu i d s t z h c = two_same d s t (h refl) (λ a b. flag (nat_lt a (imm d)))
alike Xori i d s t z h c = two_same d s t (h refl) (λ a b. bit_xor a (imm d))
alike Ori i d s t z h c = two_same d s t (h refl) (λ a b. bit_or a (imm d))
alike Andi i d s t z h c = two_same d s t (h refl) (λ a b. bit_and a (imm d))
alike Slli i d s t z h c = two_same d s t (h refl) (λ a b. shift_left a (imm d))
alike Srli i d s t z h c = two_same d s t (h refl) (λ a b. shift_right a (imm d))
alike Srai i d s t z h c = two_same d s t (h refl) (λ a b. shift_right_signed a (imm d))
alike Add i d s t z h c = two_same d s t (h refl) (λ a b. add a b)
alike Sll i d s t z h c = two_same d s t (h refl) (λ a b. shift_left a b)
alike Slt i d s t z h c = two_same d s t (h refl) (λ a b. flag (less a b))
alike Sltu i d s t z h c = two_same d s t (h refl) (λ a b. flag (nat_lt a b))
alike Xor i d s t z h c = two_same d s t (h refl) (λ a b. bit_xor a b)
alike Srl i d s t z h c = two_same d s t (h refl) (λ a b. shift_right a b)
alike Or i d s t z h c = two_same d s t (h refl) (λ a b. bit_or a b)
alike And i d s t z h c = two_same d s t (h refl) (λ a b. bit_and a b)
alike Sub i d s t z h c = two_same d s t (h refl) (λ a b. sub a b)
alike Sra i d s t z h c = two_same d s t (h refl) (λ a b. shift_right_signed a b)
alike Mul i d s t z h c = two_same d s t (h refl) (λ a b. mul a b)
alike Mulh i d s t z h c = two_same d s t (h refl) (λ a b. high_signed a b)
alike Mulhsu i d s t z h c = two_same d s t (h refl) (λ a b. high_mixed a b)
alike Mulhu i d s t z h c = two_same d s t (h refl) (λ a b. high_unsigned a b)
alike Div i d s t z h c = two_same d s t (h refl) (λ a b. div_signed a b)
alike Divu i d s t z h c = two_same d s t (h refl) (λ a b. div_unsigned a b)
alike Rem i d s t z h c = two_same d s t (h refl) (λ a b. rem_signed a b)
alike Remu i d s t z h c = two_same d s t (h refl) (λ a b. rem_unsigned a b)
alike Fence i d s t z h c = written_none d (next_at (add s.pc 4) s) (next_at (add t.pc 4) t) (z refl)
alike Ecall i d s t z h c = call_same d i s t (c refl)
alike Ebreak i d s t z h c = refl
alike LrW i d s t z h c = asks_same d s t (h refl) (λ a b. load_or i a 4 (LoadReserved a d.rd))
alike ScW i d s t z h c = asks_same d s t (h refl) (λ a b. store_or i a 4 (StoreConditional a d.rd b))
alike AmoswapW i d s t z h c = asks_same d s t (h refl) (λ a b. store_or i a 4 (Amo a ops.Swap d.rd b))
alike AmoaddW i d s t z h c = asks_same d s t (h refl) (λ a b. store_or i a 4 (Amo a ops.Add d.rd b))
alike AmoxorW i d s t z h c = asks_same d s t (h refl) (λ a b. store_or i a 4 (Amo a ops.Xor d.rd b))
alike AmoandW i d s t z h c = asks_same d s t (h refl) (λ a b. store_or i a 4 (Amo a ops.And d.rd b))
alike AmoorW i d s t z h c = asks_same d s t (h refl) (λ a b. store_or i a 4 (Amo a ops.Or d.rd b))
alike AmominW i d s t z h c = asks_same d s t (h refl) (λ a b. store_or i a 4 (Amo a ops.Min d.rd b))
alike AmomaxW i d s t z h c = asks_same d s t (h refl) (λ a b. store_or i a 4 (Amo a ops.Max d.rd b))
alike AmominuW i d s t z h c = asks_same d s t (h refl) (λ a b. store_or i a 4 (Amo a ops.MinU d.rd b))
alike AmomaxuW i d s t z h c = asks_same d s t (h refl) (λ a b. store_or i a 4 (Amo a ops.MaxU d.rd b))
