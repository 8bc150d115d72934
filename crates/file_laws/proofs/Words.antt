-- What loads, stores and atomic operations make of words are words.
use Rattle.file_laws.proofs.Common.{◌≡◌, ℕ, ◌+◌, ◌-◌, ◌*◌, ◌/◌, ◌%◌, ◌<◌, ◌^◌, Bool, true, false, ◌&&◌, refl, sym, subst, arith, mod-lt, pow_pos, div-le_self, inl, inr, ◌==◌, ◌⊎◌, nat_lt, if◌then◌else◌, eqb_tells, less, with_bytes, extended, loaded_value, stored_word, amo_result, is_aligned, AmoOp, eqb-true}
use Rattle.std.specs.Int.Bits.{and_lt}
use Rattle.std.proofs.lemmas.Nat.{or_of_32, xor_of_32}
use Rattle.rv_meaning.specs.declared.amo.AmoOp.TheVariants as ops

if_word : (t : Bool) (m n : ℕ) → m < 2 ^ 32 → n < 2 ^ 32 → (if t then m else n) < 2 ^ 32
if_word true m n h k = h
if_word false m n h k = k

-- ---- loads

byte_word : (signed : Bool) (v : ℕ) → v < 2 ^ 8 → extended signed 8 v < 2 ^ 32
byte_word true v h = if_word (nat_lt v (2 ^ 7)) v (v + (2 ^ 32 - 2 ^ 8)) (omega (arith, h)) (omega (arith, h))
byte_word false v h = omega (arith, h)

half_word : (signed : Bool) (v : ℕ) → v < 2 ^ 16 → extended signed 16 v < 2 ^ 32
half_word true v h = if_word (nat_lt v (2 ^ 15)) v (v + (2 ^ 32 - 2 ^ 16)) (omega (arith, h)) (omega (arith, h))
half_word false v h = omega (arith, h)

pub loaded_word : (addr width : ℕ) (signed : Bool) (w : ℕ) → w < 2 ^ 32 → loaded_value addr width signed w < 2 ^ 32
loaded_word addr width signed w h =
    let low = w / 2 ^ (8 * (addr % 4)) in
    let below : low < 2 ^ 32 = omega (arith, h, div-le_self w (2 ^ (8 * (addr % 4)))) in
    if_word (width == 1) (extended signed 8 (low % 2 ^ 8)) (if width == 2 then extended signed 16 (low % 2 ^ 16) else low) (byte_word signed (low % 2 ^ 8) (mod-lt low (pow_pos 8)))
    (if_word (width == 2) (extended signed 16 (low % 2 ^ 16)) low (half_word signed (low % 2 ^ 16) (mod-lt low (pow_pos 16))) below)

-- ---- stores

byte_at_0 : (v w : ℕ) → w < 2 ^ 32 → with_bytes 0 1 v w < 2 ^ 32
byte_at_0 v w h = omega (arith, h)

byte_at_1 : (v w : ℕ) → w < 2 ^ 32 → with_bytes 1 1 v w < 2 ^ 32
byte_at_1 v w h = omega (arith, h)

byte_at_2 : (v w : ℕ) → w < 2 ^ 32 → with_bytes 2 1 v w < 2 ^ 32
byte_at_2 v w h = omega (arith, h)

byte_at_3 : (v w : ℕ) → w < 2 ^ 32 → with_bytes 3 1 v w < 2 ^ 32
byte_at_3 v w h = omega (arith, h)

half_at_0 : (v w : ℕ) → w < 2 ^ 32 → with_bytes 0 2 v w < 2 ^ 32
half_at_0 v w h = omega (arith, h)

half_at_2 : (v w : ℕ) → w < 2 ^ 32 → with_bytes 2 2 v w < 2 ^ 32
half_at_2 v w h = omega (arith, h)

one_of_four : (n : ℕ) → (n % 4 ≡ 0) ⊎ ((n % 4 ≡ 1) ⊎ ((n % 4 ≡ 2) ⊎ (n % 4 ≡ 3)))
one_of_four n = elim (eqb_tells (n % 4) 0) [
  | inl p ↦ inl p.1
  | inr p ↦ elim (eqb_tells (n % 4) 1) [
    | inl q ↦ inr (inl q.1)
    | inr q ↦ elim (eqb_tells (n % 4) 2) [
      | inl r ↦ inr (inr (inl r.1))
      | inr r ↦ inr (inr (inr (omega (arith, p.1, q.1, r.1, mod-lt n {m = 4} (omega arith)))))
    ]
  ]
]

-- a byte of a word is replaced
pub with_byte : (a v w : ℕ) → w < 2 ^ 32 → with_bytes (a % 4) 1 v w < 2 ^ 32
with_byte a v w h = elim (one_of_four a) [
  | inl p ↦ subst (λ (n : ℕ). with_bytes n 1 v w < 2 ^ 32) (sym p) (byte_at_0 v w h)
  | inr q ↦ elim q [
    | inl p ↦ subst (λ (n : ℕ). with_bytes n 1 v w < 2 ^ 32) (sym p) (byte_at_1 v w h)
    | inr r ↦ elim r [
      | inl p ↦ subst (λ (n : ℕ). with_bytes n 1 v w < 2 ^ 32) (sym p) (byte_at_2 v w h)
      | inr p ↦ subst (λ (n : ℕ). with_bytes n 1 v w < 2 ^ 32) (sym p) (byte_at_3 v w h)
    ]
  ]
]

even_of_four : (n : ℕ) → n % 2 ≡ 0 → (n % 4 ≡ 0) ⊎ (n % 4 ≡ 2)
even_of_four n h = elim (eqb_tells (n % 4) 0) [
  | inl p ↦ inl p.1
  | inr p ↦ inr (omega (arith, h, p.1))
]

with_half : (a v w : ℕ) → a % 2 ≡ 0 → w < 2 ^ 32 → with_bytes (a % 4) 2 v w < 2 ^ 32
with_half a v w even h = elim (even_of_four a even) [
  | inl p ↦ subst (λ (n : ℕ). with_bytes n 2 v w < 2 ^ 32) (sym p) (half_at_0 v w h)
  | inr p ↦ subst (λ (n : ℕ). with_bytes n 2 v w < 2 ^ 32) (sym p) (half_at_2 v w h)
]

stored_by : (one two : Bool) (a v w : ℕ) → (two ≡ true → a % 2 ≡ 0) → v < 2 ^ 32 → w < 2 ^ 32 → (if one then with_bytes (a % 4) 1 v w else if two then with_bytes (a % 4) 2 v w else v) < 2 ^ 32
stored_by true two a v w even k h = with_byte a v w h
stored_by false true a v w even k h = with_half a v w (even refl) h
stored_by false false a v w even k h = k

half_even : (a width : ℕ) → is_aligned a width ≡ true → (width == 2) ≡ true → a % 2 ≡ 0
half_even a width e f = even_by width (eqb-true width 2 f) e
  where
    at_two : (b : Bool) → (true && b) ≡ true → b ≡ true
    at_two b x = x

    even_by : (n : ℕ) → n ≡ 2 → is_aligned a n ≡ true → a % 2 ≡ 0
    even_by n p x = let y : is_aligned a 2 ≡ true = subst (λ (m : ℕ). is_aligned a m ≡ true) p x in eqb-true (a % 2) 0 y

pub stored : (a width v w : ℕ) → is_aligned a width ≡ true → v < 2 ^ 32 → w < 2 ^ 32 → stored_word a width v w < 2 ^ 32
stored a width v w e k h = stored_by (width == 1) (width == 2) a v w (λ f. half_even a width e f) k h

-- ---- atomic operations

pub amo_word : (op : AmoOp) (w b : ℕ) → w < 2 ^ 32 → b < 2 ^ 32 → amo_result op w b < 2 ^ 32
amo_word ops.Swap w b h k = k
amo_word ops.Add w b h k = mod-lt (w + b) (pow_pos 32)
amo_word ops.Xor w b h k = xor_of_32 w b h k
amo_word ops.And w b h k = and_lt 32 w b h k
amo_word ops.Or w b h k = or_of_32 w b h k
amo_word ops.Min w b h k = if_word (less w b) w b h k
amo_word ops.Max w b h k = if_word (less w b) b w k h
amo_word op w b h k = omega (arith, h, k)
