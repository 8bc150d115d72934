-- Registers that hold words hold words after each instruction, and when a hart asks.
use Rattle.rv_meaning.proofs.Common.{◌≡◌, ℕ, zero, suc, ◌+◌, ◌-◌, ◌*◌, ◌/◌, ◌%◌, ◌<◌, ◌≤◌, ◌^◌, Bool, true, false, cond, List, [], ◌∷◌, set, slice_index, ℤ, pos, negsuc, neg_ℤ, ◌*ℤ◌, unsigned_abs, int_div, int_rem, sym, subst, arith, refl, mod-lt, pow_pos, div-le_self, mul-le-mul, w64, ◌==◌, not, nat_lt, if◌then◌else◌, Option, Some, None, cast_unsigned, int_shr, and_lt, mod-le, of_z-to_z, unsigned_abs-mul, or_of_32, xor_of_32, shr_below, Program, code_at, put_reg, HartState, TargetMisaligned, Row, Instruction, decoded, spelled, spelled_by, row_in, table, field, signed, Name, Lui, Auipc, Jal, Jalr, Beq, Bne, Blt, Bge, Bltu, Bgeu, Addi, Slti, Sltiu, Xori, Ori, Andi, Slli, Srli, Srai, Add, Sll, Slt, Sltu, Xor, Srl, Or, And, Sub, Sra, Mul, Mulh, Mulhsu, Mulhu, Div, Divu, Rem, Remu, Fence, wrap, signed_of, bits_of, flag, less, shift_right, shift_right_signed, high_of, high_signed, high_mixed, high_unsigned, div_signed, div_unsigned, rem_signed, rem_unsigned, Step, Quiet, Asks, ask_of, step, fetched, executed, meaning, branch, src1, src2, imm, near, there, Ask, Faulted}
use Rattle.std.proofs.Common.{w32}
use Rattle.std.specs.Int.Signed.{mag, mag_rem, mag_shr, nat_abs-le}
use Rattle.std.proofs.Math.Facts.{sfits_to_z}
use Rattle.rv_decode.specs.declared.format.Format.{Format}
use Rattle.rv_decode.specs.declared.format.Format.TheVariants.{U, J, I, B, S, Shift, R, Bare, Atomic}
use Rattle.rv_meaning.specs.WordStates.{AreWords}

-- ---- signed numbers as words. The bits of a number are a word if its size is below 2 ^ 32

word_of : (z : ℤ) → mag z < 2 ^ 32 → bits_of z < 2 ^ 32
word_of (pos n) h = h
word_of (negsuc n) h = omega arith

word_of_negative : (n : ℕ) → bits_of (neg_ℤ (pos n)) < 2 ^ 32
word_of_negative zero = omega arith
word_of_negative (suc n) = omega arith

mag_signed : (a : ℕ) → a < 2 ^ 32 → mag (signed_of a) < 2 ^ 31
mag_signed a h = (sfits_to_z {w = w32} {n = a} (record { fits = h })).sfits

abs_signed : (a : ℕ) → a < 2 ^ 32 → unsigned_abs (signed_of a) ≤ 2 ^ 31
abs_signed a h = nat_abs-le (signed_of a) (mag_signed a h)

double_of : (z : ℤ) → unsigned_abs z < 2 ^ 64 → cast_unsigned w64 z < 2 ^ 64
double_of (pos n) h = h
double_of (negsuc n) h = omega arith

-- ---- the operations: each gives a word of words

wrap_word : (n : ℕ) → wrap n < 2 ^ 32
wrap_word n = mod-lt n (pow_pos 32)

flag_word : (b : Bool) → flag b < 2 ^ 32
flag_word true = omega arith
flag_word false = omega arith

shift_right_word : (a n : ℕ) → a < 2 ^ 32 → shift_right a n < 2 ^ 32
shift_right_word a n h = omega (arith, h, div-le_self a (2 ^ (n % 32)))

shift_right_signed_word : (a n : ℕ) → a < 2 ^ 32 → shift_right_signed a n < 2 ^ 32
shift_right_signed_word a n h = word_of (int_shr (signed_of a) (n % 32)) (omega (arith, mag_signed a h, mag_shr (signed_of a) (2 ^ (n % 32))))

high_word : (z : ℤ) → unsigned_abs z < 2 ^ 64 → high_of z < 2 ^ 32
high_word z h = shr_below (cast_unsigned w64 z) 32 32 (double_of z h)

high_signed_word : (a b : ℕ) → a < 2 ^ 32 → b < 2 ^ 32 → high_signed a b < 2 ^ 32
high_signed_word a b h k =
    high_word (signed_of a *ℤ signed_of b) (omega (arith, unsigned_abs-mul (signed_of a) (signed_of b), mul-le-mul (abs_signed a h) (abs_signed b k)))

below_product : (p m n : ℕ) → p ≡ m * n → m ≤ 2 ^ 32 → n < 2 ^ 32 → p < 2 ^ 64
below_product p m n e h k =
    let below : n ≤ 2 ^ 32 - 1 = omega (arith, k) in
    let u : m * n ≤ 2 ^ 32 * (2 ^ 32 - 1) = mul-le-mul h below in omega (arith, e, u)

high_mixed_word : (a b : ℕ) → a < 2 ^ 32 → b < 2 ^ 32 → high_mixed a b < 2 ^ 32
high_mixed_word a b h k =
    high_word (signed_of a *ℤ pos b) (below_product _ (unsigned_abs (signed_of a)) b (unsigned_abs-mul (signed_of a) (pos b)) (omega (arith, abs_signed a h)) k)

high_unsigned_word : (a b : ℕ) → a < 2 ^ 32 → b < 2 ^ 32 → high_unsigned a b < 2 ^ 32
high_unsigned_word a b h k = shr_below (a * b) 32 32 (below_product (a * b) a b refl (omega (arith, h)) k)

quotient_word : (x y : ℤ) → unsigned_abs x ≤ 2 ^ 31 → bits_of (int_div x y) < 2 ^ 32
quotient_word (pos a) (pos b) h = omega (arith, h, div-le_self a b)
quotient_word (pos a) (negsuc b) h = word_of_negative (a / suc b)
quotient_word (negsuc a) (pos b) h = word_of_negative (suc a / b)
quotient_word (negsuc a) (negsuc b) h = omega (arith, h, div-le_self (suc a) (suc b))

if_word : (t : Bool) (m n : ℕ) → m < 2 ^ 32 → n < 2 ^ 32 → (if t then m else n) < 2 ^ 32
if_word true m n h k = h
if_word false m n h k = k

div_signed_word : (a b : ℕ) → a < 2 ^ 32 → div_signed a b < 2 ^ 32
div_signed_word a b h = if_word (b == 0) (2 ^ 32 - 1) _ (omega arith) (quotient_word (signed_of a) (signed_of b) (abs_signed a h))

rem_signed_word : (a b : ℕ) → a < 2 ^ 32 → rem_signed a b < 2 ^ 32
rem_signed_word a b h =
    if_word (b == 0) a _ h (word_of (int_rem (signed_of a) (signed_of b)) (omega (arith, mag_signed a h, mag_rem (signed_of a) (signed_of b))))

div_unsigned_word : (a b : ℕ) → a < 2 ^ 32 → div_unsigned a b < 2 ^ 32
div_unsigned_word a b h = if_word (b == 0) (2 ^ 32 - 1) (a / b) (omega arith) (omega (arith, h, div-le_self a b))

rem_unsigned_word : (a b : ℕ) → a < 2 ^ 32 → rem_unsigned a b < 2 ^ 32
rem_unsigned_word a b h = if_word (b == 0) a (a % b) h (omega (arith, h, mod-le a b))

-- ---- the immediates: whatever the number that is decoded, they are words

-- the immediate of an instruction, if there is one, is a word
abbrev pub HasWord : Option Instruction → Type 0
HasWord None = Unit {0}
HasWord (Some d) = bits_of d.imm < 2 ^ 32

field_below : (lo k w : ℕ) → field lo k w < 2 ^ k
field_below lo k w = mod-lt (w / 2 ^ lo) (pow_pos k)

signed_at : (t : Bool) (n m : ℕ) → n < 2 ^ 32 → bits_of (cond t (pos n) (negsuc m)) < 2 ^ 32
signed_at true n m h = h
signed_at false n m h = omega arith

signed_word : (k n : ℕ) → n < 2 ^ 32 → bits_of (signed k n) < 2 ^ 32
signed_word k n h = signed_at (nat_lt n (2 ^ (k - 1))) n (2 ^ k - 1 - n) h

upper_word : (n : ℕ) → n < 2 ^ 32 → bits_of (signed_of n) < 2 ^ 32
upper_word n h = subst (λ m. m < 2 ^ 32) (sym (of_z-to_z w32 n h)) h

spelled_word : (n : Name) (f : Format) (w : ℕ) → bits_of (spelled n f w).imm < 2 ^ 32
spelled_word n U w = upper_word (field 12 20 w * 2 ^ 12) (omega (arith, field_below 12 20 w))
spelled_word n J w = signed_word 21 (field 31 1 w * 2 ^ 20 + field 12 8 w * 2 ^ 12 + field 20 1 w * 2 ^ 11 + field 21 10 w * 2) (omega (arith, field_below 31 1 w, field_below 12 8 w, field_below 20 1 w, field_below 21 10 w))
spelled_word n I w = signed_word 12 (field 20 12 w) (omega (arith, field_below 20 12 w))
spelled_word n B w = signed_word 13 (field 31 1 w * 2 ^ 12 + field 7 1 w * 2 ^ 11 + field 25 6 w * 2 ^ 5 + field 8 4 w * 2) (omega (arith, field_below 31 1 w, field_below 7 1 w, field_below 25 6 w, field_below 8 4 w))
spelled_word n S w = signed_word 12 (field 25 7 w * 2 ^ 5 + field 7 5 w) (omega (arith, field_below 25 7 w, field_below 7 5 w))
spelled_word n Shift w = omega (arith, field_below 20 5 w)
spelled_word n R w = omega arith
spelled_word n Bare w = omega arith
spelled_word n Atomic w = omega arith

row_word : (o : Option Row) (w : ℕ) → HasWord (spelled_by o w)
row_word None w = tt
row_word (Some r) w = spelled_word r.name r.format w

-- ---- the registers

set_words : (x : List ℕ) (i v : ℕ) → v < 2 ^ 32 → AreWords x → (r : ℕ) → slice_index (set x i v) r < 2 ^ 32
set_words [] i v p h r = h r
set_words (y ∷ ys) zero v p h zero = p
set_words (y ∷ ys) zero v p h (suc r) = h (suc r)
set_words (y ∷ ys) (suc i) v p h zero = h zero
set_words (y ∷ ys) (suc i) v p h (suc r) = set_words ys i v p (λ k. h (suc k)) r

put_words : (rd v : ℕ) (x : List ℕ) → v < 2 ^ 32 → AreWords x → AreWords (put_reg rd v x)
put_words zero v x p h = h
put_words (suc rd) v x p h = λ r. set_words x (suc rd) v p h r

-- ---- the instructions

-- after a quiet step the registers hold words
abbrev pub WordsAfter : Step → Type 0
WordsAfter (Quiet t) = AreWords t.x
WordsAfter (Asks w) = Unit {0}

jump_words : (fits : Bool) (target : ℕ) (t : HartState) → AreWords t.x → WordsAfter (if fits then Quiet t else Asks (Faulted TargetMisaligned target))
jump_words true target t h = h
jump_words false target t h = tt

branch_words : (taken : Bool) (target : ℕ) (s : HartState) → AreWords s.x → WordsAfter (branch taken target s)
branch_words true target s h = jump_words (target % 4 == 0) target _ h
branch_words false target s h = h

meaning_words : (n : Name) (i : Program) (d : Instruction) (s : HartState) → bits_of d.imm < 2 ^ 32 → AreWords s.x → WordsAfter (meaning n i d s)
meaning_words Lui i d s m h = put_words d.rd _ s.x m h
meaning_words Auipc i d s m h = put_words d.rd _ s.x (wrap_word _) h
meaning_words Jal i d s m h = jump_words (near s d % 4 == 0) (near s d) _ (put_words d.rd _ s.x (wrap_word _) h)
meaning_words Jalr i d s m h = jump_words (there s d / 2 * 2 % 4 == 0) (there s d / 2 * 2) _ (put_words d.rd _ s.x (wrap_word _) h)
meaning_words Beq i d s m h = branch_words (src1 s d == src2 s d) (near s d) s h
meaning_words Bne i d s m h = branch_words (not (src1 s d == src2 s d)) (near s d) s h
meaning_words Blt i d s m h = branch_words (less (src1 s d) (src2 s d)) (near s d) s h
meaning_words Bge i d s m h = branch_words (not (less (src1 s d) (src2 s d))) (near s d) s h
meaning_words Bltu i d s m h = branch_words (nat_lt (src1 s d) (src2 s d)) (near s d) s h
meaning_words Bgeu i d s m h = branch_words (not (nat_lt (src1 s d) (src2 s d))) (near s d) s h
meaning_words Addi i d s m h = put_words d.rd _ s.x (wrap_word _) h
meaning_words Slti i d s m h = put_words d.rd _ s.x (flag_word _) h
meaning_words Sltiu i d s m h = put_words d.rd _ s.x (flag_word _) h
meaning_words Xori i d s m h = put_words d.rd _ s.x (xor_of_32 (src1 s d) (imm d) (h d.rs1) m) h
meaning_words Ori i d s m h = put_words d.rd _ s.x (or_of_32 (src1 s d) (imm d) (h d.rs1) m) h
meaning_words Andi i d s m h = put_words d.rd _ s.x (and_lt 32 (src1 s d) (imm d) (h d.rs1) m) h
meaning_words Slli i d s m h = put_words d.rd _ s.x (wrap_word _) h
meaning_words Srli i d s m h = put_words d.rd _ s.x (shift_right_word (src1 s d) (imm d) (h d.rs1)) h
meaning_words Srai i d s m h = put_words d.rd _ s.x (shift_right_signed_word (src1 s d) (imm d) (h d.rs1)) h
meaning_words Add i d s m h = put_words d.rd _ s.x (wrap_word _) h
meaning_words Sub i d s m h = put_words d.rd _ s.x (wrap_word _) h
meaning_words Slt i d s m h = put_words d.rd _ s.x (flag_word _) h
meaning_words Sltu i d s m h = put_words d.rd _ s.x (flag_word _) h
meaning_words And i d s m h = put_words d.rd _ s.x (and_lt 32 (src1 s d) (src2 s d) (h d.rs1) (h d.rs2)) h
meaning_words Or i d s m h = put_words d.rd _ s.x (or_of_32 (src1 s d) (src2 s d) (h d.rs1) (h d.rs2)) h
meaning_words Xor i d s m h = put_words d.rd _ s.x (xor_of_32 (src1 s d) (src2 s d) (h d.rs1) (h d.rs2)) h
meaning_words Sll i d s m h = put_words d.rd _ s.x (wrap_word _) h
meaning_words Srl i d s m h = put_words d.rd _ s.x (shift_right_word (src1 s d) (src2 s d) (h d.rs1)) h
meaning_words Sra i d s m h = put_words d.rd _ s.x (shift_right_signed_word (src1 s d) (src2 s d) (h d.rs1)) h
meaning_words Mul i d s m h = put_words d.rd _ s.x (wrap_word _) h
meaning_words Mulh i d s m h = put_words d.rd _ s.x (high_signed_word (src1 s d) (src2 s d) (h d.rs1) (h d.rs2)) h
meaning_words Mulhsu i d s m h = put_words d.rd _ s.x (high_mixed_word (src1 s d) (src2 s d) (h d.rs1) (h d.rs2)) h
meaning_words Mulhu i d s m h = put_words d.rd _ s.x (high_unsigned_word (src1 s d) (src2 s d) (h d.rs1) (h d.rs2)) h
meaning_words Div i d s m h = put_words d.rd _ s.x (div_signed_word (src1 s d) (src2 s d) (h d.rs1)) h
meaning_words Divu i d s m h = put_words d.rd _ s.x (div_unsigned_word (src1 s d) (src2 s d) (h d.rs1)) h
meaning_words Rem i d s m h = put_words d.rd _ s.x (rem_signed_word (src1 s d) (src2 s d) (h d.rs1)) h
meaning_words Remu i d s m h = put_words d.rd _ s.x (rem_unsigned_word (src1 s d) (src2 s d) (h d.rs1)) h
meaning_words Fence i d s m h = h
meaning_words n i d s m h = tt

executed_words : (o : Option Instruction) (w : ℕ) (i : Program) (s : HartState) → HasWord o → AreWords s.x → WordsAfter (executed o w i s)
executed_words None w i s m h = tt
executed_words (Some d) w i s m h = meaning_words d.name i d s m h

fetched_words : (o : Option ℕ) (i : Program) (s : HartState) → AreWords s.x → WordsAfter (fetched o i s)
fetched_words None i s h = tt
fetched_words (Some w) i s h = executed_words (decoded w) w i s (row_word (row_in table w) w) h

pub step_words : (i : Program) (s : HartState) → AreWords s.x → WordsAfter (step i s)
step_words i s h = fetched_words (code_at i s.pc) i s h

-- ---- the asks

-- the ask for a step
abbrev ask_by : Program → ℕ → HartState → Step → Ask
ask_by i n s x = elim x [ Quiet t ↦ ask_of i n t | Asks w ↦ record { state = s; want = w } ]

words_next : (i : Program) (n : ℕ) (s : HartState) (x : Step) → AreWords s.x → WordsAfter x
    → ((t : HartState) → AreWords t.x → AreWords (ask_of i n t).state.x) → AreWords (ask_by i n s x).state.x
words_next i n s (Quiet t) h k rest = rest t k
words_next i n s (Asks w) h k rest = h

-- when a hart asks, its registers hold words
pub ask_words : (i : Program) (n : ℕ) (s : HartState) → AreWords s.x → AreWords (ask_of i n s).state.x
ask_words i zero s h = h
ask_words i (suc n) s h = words_next i n s (step i s) h (step_words i s h) (λ t k. ask_words i n t k)
