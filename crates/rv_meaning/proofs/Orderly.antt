-- What a hart asks passes the program's tests, and comes within the budget.
use Rattle.rv_meaning.proofs.Common.{◌≡◌, ℕ, zero, suc, ◌+◌, ◌*◌, ◌/◌, ◌%◌, ◌<◌, ◌≤◌, ◌^◌, ◌⊎◌, inl, inr, Bool, true, false, refl, sym, subst, arith, ◌==◌, ◌&&◌, not, nat_lt, nat_le, if◌then◌else◌, Option, Some, None, Program, code_at, may_load, may_store, HartState, LoadOutside, LoadMisaligned, StoreOutside, StoreMisaligned, StoreReadOnly, TargetMisaligned, Instruction, decoded, Name, Jal, Jalr, Beq, Bne, Blt, Bge, Bltu, Bgeu, Lb, Lh, Lw, Lbu, Lhu, Sb, Sh, Sw, Ecall, Ebreak, LrW, ScW, AmoswapW, AmoaddW, AmoxorW, AmoandW, AmoorW, AmominW, AmomaxW, AmominuW, AmomaxuW, less, Step, Quiet, Asks, ask_of, step, fetched, executed, meaning, branch, load_or, store_or, amo, count_up, src1, src2, near, there, passes, is_counted, orderly, is_cut, Ask, Want, Load, Store, LoadReserved, StoreConditional, Amo, Cut, Faulted, eq-eqb, and_from}
use Rattle.rv_meaning.specs.declared.amo.AmoOp.{AmoOp}
use Rattle.rv_meaning.specs.declared.amo.AmoOp.TheVariants as ops

-- an ask of an instruction: no cut, and it passes the tests
abbrev pub IsAsked : Program → Want → Type 0
IsAsked i w = (is_cut w ≡ false) × (passes i w ≡ true)

-- ---- the tests

-- a quiet step from a state adds one to the count, and what a step asks is the ask of an instruction
abbrev pub IsSound : Program → HartState → Step → Type 0
IsSound i s (Quiet t) = t.ic ≡ count_up s.ic
IsSound i s (Asks w) = IsAsked i w

load_at : (a b : Bool) (i : Program) (addr : ℕ) (w : Want) → is_cut w ≡ false → passes i w ≡ (a && b)
    → IsAsked i (if a then (if b then w else Faulted LoadOutside addr) else Faulted LoadMisaligned addr)
load_at true true i addr w c e = (c, e)
load_at true false i addr w c e = (refl, refl)
load_at false b i addr w c e = (refl, refl)

load_passes : (i : Program) (addr width : ℕ) (w : Want) → is_cut w ≡ false → passes i w ≡ ((addr % width == 0) && may_load i addr)
    → IsAsked i (load_or i addr width w)
load_passes i addr width w c e = load_at (addr % width == 0) (may_load i addr) i addr w c e

store_at : (a b c : Bool) (i : Program) (addr : ℕ) (w : Want) → is_cut w ≡ false → passes i w ≡ (a && (b && c))
    → IsAsked i (if a then (if b then (if c then w else Faulted StoreReadOnly addr) else Faulted StoreOutside addr) else Faulted StoreMisaligned addr)
store_at true true true i addr w k e = (k, e)
store_at true true false i addr w k e = (refl, refl)
store_at true false c i addr w k e = (refl, refl)
store_at false b c i addr w k e = (refl, refl)

store_passes : (i : Program) (addr width : ℕ) (w : Want) → is_cut w ≡ false → passes i w ≡ ((addr % width == 0) && (may_load i addr && may_store i addr))
    → IsAsked i (store_or i addr width w)
store_passes i addr width w c e = store_at (addr % width == 0) (may_load i addr) (may_store i addr) i addr w c e

jump_sound : (a : Bool) (i : Program) (target : ℕ) (s t : HartState) → t.ic ≡ count_up s.ic → IsSound i s (if a then Quiet t else Asks (Faulted TargetMisaligned target))
jump_sound true i target s t e = e
jump_sound false i target s t e = (refl, refl)

branch_sound : (taken : Bool) (i : Program) (target : ℕ) (s : HartState) → IsSound i s (branch taken target s)
branch_sound true i target s = jump_sound (target % 4 == 0) i target s _ refl
branch_sound false i target s = refl

amo_sound : (i : Program) (d : Instruction) (op : AmoOp) (s : HartState) → IsSound i s (amo i d op s)
amo_sound i d op s = store_passes i (src1 s d) 4 (Amo (src1 s d) op d.rd (src2 s d)) refl refl

meaning_sound : (n : Name) (i : Program) (d : Instruction) (s : HartState) → IsSound i s (meaning n i d s)
meaning_sound Jal i d s = jump_sound (near s d % 4 == 0) i (near s d) s _ refl
meaning_sound Jalr i d s = jump_sound (there s d / 2 * 2 % 4 == 0) i (there s d / 2 * 2) s _ refl
meaning_sound Beq i d s = branch_sound (src1 s d == src2 s d) i (near s d) s
meaning_sound Bne i d s = branch_sound (not (src1 s d == src2 s d)) i (near s d) s
meaning_sound Blt i d s = branch_sound (less (src1 s d) (src2 s d)) i (near s d) s
meaning_sound Bge i d s = branch_sound (not (less (src1 s d) (src2 s d))) i (near s d) s
meaning_sound Bltu i d s = branch_sound (nat_lt (src1 s d) (src2 s d)) i (near s d) s
meaning_sound Bgeu i d s = branch_sound (not (nat_lt (src1 s d) (src2 s d))) i (near s d) s
meaning_sound Lb i d s = load_passes i (there s d) 1 (Load (there s d) 1 true d.rd) refl refl
meaning_sound Lh i d s = load_passes i (there s d) 2 (Load (there s d) 2 true d.rd) refl refl
meaning_sound Lw i d s = load_passes i (there s d) 4 (Load (there s d) 4 false d.rd) refl refl
meaning_sound Lbu i d s = load_passes i (there s d) 1 (Load (there s d) 1 false d.rd) refl refl
meaning_sound Lhu i d s = load_passes i (there s d) 2 (Load (there s d) 2 false d.rd) refl refl
meaning_sound Sb i d s = store_passes i (there s d) 1 (Store (there s d) 1 (src2 s d)) refl refl
meaning_sound Sh i d s = store_passes i (there s d) 2 (Store (there s d) 2 (src2 s d)) refl refl
meaning_sound Sw i d s = store_passes i (there s d) 4 (Store (there s d) 4 (src2 s d)) refl refl
meaning_sound Ecall i d s = (refl, refl)
meaning_sound Ebreak i d s = (refl, refl)
meaning_sound LrW i d s = load_passes i (src1 s d) 4 (LoadReserved (src1 s d) d.rd) refl refl
meaning_sound ScW i d s = store_passes i (src1 s d) 4 (StoreConditional (src1 s d) d.rd (src2 s d)) refl refl
meaning_sound AmoswapW i d s = amo_sound i d ops.Swap s
meaning_sound AmoaddW i d s = amo_sound i d ops.Add s
meaning_sound AmoxorW i d s = amo_sound i d ops.Xor s
meaning_sound AmoandW i d s = amo_sound i d ops.And s
meaning_sound AmoorW i d s = amo_sound i d ops.Or s
meaning_sound AmominW i d s = amo_sound i d ops.Min s
meaning_sound AmomaxW i d s = amo_sound i d ops.Max s
meaning_sound AmominuW i d s = amo_sound i d ops.MinU s
meaning_sound AmomaxuW i d s = amo_sound i d ops.MaxU s
meaning_sound n i d s = refl

executed_sound : (o : Option Instruction) (w : ℕ) (i : Program) (s : HartState) → IsSound i s (executed o w i s)
executed_sound None w i s = (refl, refl)
executed_sound (Some d) w i s = meaning_sound d.name i d s

fetched_sound : (o : Option ℕ) (i : Program) (s : HartState) → IsSound i s (fetched o i s)
fetched_sound None i s = (refl, refl)
fetched_sound (Some w) i s = executed_sound (decoded w) w i s

pub step_sound : (i : Program) (s : HartState) → IsSound i s (step i s)
step_sound i s = fetched_sound (code_at i s.pc) i s

-- ---- the asks

-- the ask for a step
abbrev by_step : Program → ℕ → HartState → Step → Ask
by_step i n s x = elim x [ Quiet t ↦ ask_of i n t | Asks w ↦ record { state = s; want = w } ]

count_next : (i : Program) (n : ℕ) (s : HartState) (x : Step) → IsSound i s x → ((t : HartState) → (ask_of i n t).state.ic ≤ t.ic + n)
    → (by_step i n s x).state.ic ≤ s.ic + suc n
count_next i n s (Quiet t) e rest = let r = rest t in omega (arith, r, e)
count_next i n s (Asks w) e rest = omega arith

-- the count of an ask is at most that of the hart plus the budget
pub ask_count : (i : Program) (n : ℕ) (s : HartState) → (ask_of i n s).state.ic ≤ s.ic + n
ask_count i zero s = omega arith
ask_count i (suc n) s = count_next i n s (step i s) (step_sound i s) (λ t. ask_count i n t)

-- an ask is a cut after the whole budget, or that of an instruction before
abbrev pub Found : Program → ℕ → ℕ → Ask → Type 0
Found i from n a = ((a.want ≡ Cut) × (a.state.ic ≡ from + n)) ⊎ (IsAsked i a.want × (from ≤ a.state.ic) × (a.state.ic < from + n))

found_next : (i : Program) (n : ℕ) (s : HartState) (x : Step) → s.ic + suc n < 2 ^ 64 → IsSound i s x
    → ((t : HartState) → t.ic + n < 2 ^ 64 → Found i t.ic n (ask_of i n t)) → Found i s.ic (suc n) (by_step i n s x)
found_next i n s (Quiet t) h e rest =
    let up : t.ic ≡ s.ic + 1 = omega (arith, h, e) in
    later (rest t (omega (arith, h, up))) up
  where
    later : Found i t.ic n (ask_of i n t) → t.ic ≡ s.ic + 1 → Found i s.ic (suc n) (ask_of i n t)
    later (inl f) up = inl (f.0, omega (arith, f.1, up))
    later (inr f) up = inr (f.0, omega (arith, f.1, up), omega (arith, f.2, up))
found_next i n s (Asks w) h p rest = inr (p, omega arith, omega arith)

ask_found : (i : Program) (n : ℕ) (s : HartState) → s.ic + n < 2 ^ 64 → Found i s.ic n (ask_of i n s)
ask_found i zero s h = inl (refl, omega arith)
ask_found i (suc n) s h = found_next i n s (step i s) h (step_sound i s) (λ t. ask_found i n t)

range_test : (low m high : ℕ) → low ≤ m → m < high → (nat_le low m && nat_lt m high) ≡ true
range_test low m high p q = grind arith

found_orderly : (i : Program) (from n : ℕ) (a : Ask) → Found i from n a → orderly i from n a ≡ true
found_orderly i from n a (inl f) =
    and_from (is_counted from n a.want a.state.ic) (passes i a.want)
    (subst (λ (w : Want). is_counted from n w a.state.ic ≡ true) (sym f.0) (eq-eqb a.state.ic (from + n) f.1))
    (subst (λ (w : Want). passes i w ≡ true) (sym f.0) refl)
found_orderly i from n a (inr f) =
    and_from (is_counted from n a.want a.state.ic) (passes i a.want)
    (subst (λ (c : Bool). (if c then a.state.ic == from + n else nat_le from a.state.ic && nat_lt a.state.ic (from + n)) ≡ true) (sym f.0.0) (range_test from a.state.ic (from + n) f.1 f.2))
    f.0.1

-- what a hart asks is orderly for its count and budget
pub ask_orderly : (i : Program) (n : ℕ) (s : HartState) → s.ic + n < 2 ^ 64 → orderly i s.ic n (ask_of i n s) ≡ true
ask_orderly i n s h = found_orderly i s.ic n (ask_of i n s) (ask_found i n s h)
