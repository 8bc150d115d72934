-- A word with some of its bits replaced, by masks and shifts.
use Rattle.rv_meaning.proofs.Common.{◌≡◌, ℕ, ◌+◌, ◌-◌, ◌*◌, ◌/◌, ◌%◌, ◌<◌, ◌≤◌, ◌^◌, Bool, true, false, refl, ap, ◌∙◌, subst, arith, mod-lt, ◌==◌, ◌&&◌, ◌||◌, if◌then◌else◌, bit_and, bit_or, or_zero_r, mul_comm, mul-sub, pow-le-pow_right, and_comm, and_mask, and-not, mod-pow-add, or_block, or_comm, or_shifted, pow-add, pow_pos, shl_below, shl_whole, shr_split, is_aligned, with_bytes, eqb-true}
use Rattle.std.proofs.lemmas.Nat.Bits.{and_high, ones_shr}
use Rattle.rv_meaning.specs.Access.{stored_word}

-- k ones, and p zeros below them
ones_at : (k p : ℕ) → (2 ^ k - 1) * 2 ^ p ≡ 2 ^ (k + p) - 2 ^ p
ones_at k p = mul_comm (2 ^ k - 1) (2 ^ p) ∙ (mul-sub (2 ^ p) (2 ^ k) 1 ∙ omega (arith, pow-add 2 k p, mul_comm (2 ^ p) (2 ^ k)))

-- what is left of a number of 32 bits without the k bits from p on: those above, and those below
without_bits : (k p w : ℕ) → k + p ≤ 32 → w < 2 ^ 32
    → bit_and w (2 ^ 32 - 1 - (2 ^ k - 1) * 2 ^ p) ≡ w / 2 ^ (k + p) * 2 ^ (k + p) + w % 2 ^ p
without_bits k p w h below =
    let fits : (2 ^ k - 1) * 2 ^ p < 2 ^ 32 = omega (arith, ones_at k p, pow_pos p, pow_pos k, pow-le-pow_right {n = 2} (omega arith) h) in
    let ones = ap (bit_and w) (ones_at k p) ∙ and_high w k p in
    let rest = and-not 32 ((2 ^ k - 1) * 2 ^ p) w fits below in
    omega (arith, and_comm w (2 ^ 32 - 1 - (2 ^ k - 1) * 2 ^ p), and_comm w ((2 ^ k - 1) * 2 ^ p), ones, rest, shr_split w (k + p), mod-pow-add w k p)

-- x put in for the k bits from p on, between those above and those below
with_bits : (k p h l x : ℕ) → l < 2 ^ p → x < 2 ^ k → bit_or (h * 2 ^ (k + p) + l) (x * 2 ^ p) ≡ h * 2 ^ (k + p) + (x * 2 ^ p + l)
with_bits k p h l x below fits =
    let more : p ≤ k + p = omega arith in
    let low : l < 2 ^ (k + p) = omega (arith, below, pow-le-pow_right {n = 2} (omega arith) more) in
    let apart = or_block (k + p) h 0 l (x * 2 ^ p) low (shl_below x k p fits) in
    let none : x * 2 ^ p ≡ 0 * 2 ^ (k + p) + x * 2 ^ p = omega arith in
    ap (bit_or (h * 2 ^ (k + p) + l)) none ∙ apart
    ∙ (ap (λ (n : ℕ). n * 2 ^ (k + p) + bit_or l (x * 2 ^ p)) (or_zero_r h) ∙ ap (λ (n : ℕ). h * 2 ^ (k + p) + n) (or_comm l (x * 2 ^ p) ∙ or_shifted x p l below))

-- the low k bits of v put in for the k bits from p on
pub replaced : (k p w v : ℕ) → k + p ≤ 32 → w < 2 ^ 32
    → bit_or (bit_and w (2 ^ 32 - 1 - (2 ^ k - 1) * 2 ^ p % 2 ^ 32)) (bit_and v (2 ^ k - 1) * 2 ^ p % 2 ^ 32)
    ≡ w % 2 ^ p + v % 2 ^ k * 2 ^ p + w / 2 ^ (k + p) * 2 ^ (k + p)
replaced k p w v h below =
    let mask : (2 ^ k - 1) * 2 ^ p % 2 ^ 32 ≡ (2 ^ k - 1) * 2 ^ p = shl_whole (2 ^ k - 1) k p 32 (omega (arith, pow_pos k)) h in
    let left = ap (λ (m : ℕ). bit_and w (2 ^ 32 - 1 - m)) mask ∙ without_bits k p w h below in
    let value = ap (λ (n : ℕ). n * 2 ^ p % 2 ^ 32) (and_mask v k) ∙ shl_whole (v % 2 ^ k) k p 32 (mod-lt v (pow_pos k)) h in
    let whole = with_bits k p (w / 2 ^ (k + p)) (w % 2 ^ p) (v % 2 ^ k) (mod-lt w (pow_pos p)) (mod-lt v (pow_pos k)) in
    ap (λ (m : ℕ). bit_or m (bit_and v (2 ^ k - 1) * 2 ^ p % 2 ^ 32)) left
    ∙ (ap (bit_or (w / 2 ^ (k + p) * 2 ^ (k + p) + w % 2 ^ p)) value ∙ (whole ∙ omega arith))

-- the shift by this many bits leaves the mask of the others
mask_of : (k o : ℕ) → k + o ≡ 32 → (2 ^ 32 - 1) / 2 ^ o ≡ 2 ^ k - 1
mask_of k o e =
    let left : 32 - o ≡ k = omega (arith, e) in
    ones_shr 32 o (omega (arith, e)) ∙ ap (λ (n : ℕ). 2 ^ n - 1) left

-- what the code computes, of a mask for the bits that an access has
abbrev pub masked : (o p w v : ℕ) → ℕ
masked o p w v =
    bit_or (bit_and w (2 ^ 32 - 1 - (2 ^ 32 - 1) / 2 ^ o * 2 ^ p % 2 ^ 32)) (bit_and v ((2 ^ 32 - 1) / 2 ^ o) * 2 ^ p % 2 ^ 32)

masked_is : (k o p w v : ℕ) → k + o ≡ 32 → k + p ≤ 32 → w < 2 ^ 32 → masked o p w v ≡ w % 2 ^ p + v % 2 ^ k * 2 ^ p + w / 2 ^ (k + p) * 2 ^ (k + p)
masked_is k o p w v e h below =
    ap (λ (m : ℕ). bit_or (bit_and w (2 ^ 32 - 1 - m * 2 ^ p % 2 ^ 32)) (bit_and v m * 2 ^ p % 2 ^ 32)) (mask_of k o e) ∙ replaced k p w v h below

-- the bytes of a store of one or two bytes
masked_bytes : (n at o w v : ℕ) → 8 * n + o ≡ 32 → n + at ≤ 4 → w < 2 ^ 32 → masked o (at * 8) w v ≡ with_bytes at n v w
masked_bytes n at o w v e h below =
    let place : at * 8 ≡ 8 * at = omega arith in
    let end : 8 * n + at * 8 ≡ 8 * (at + n) = omega arith in
    masked_is (8 * n) o (at * 8) w v e (omega (arith, h)) below
    ∙ (ap (λ (p : ℕ). w % 2 ^ p + v % 2 ^ (8 * n) * 2 ^ p + w / 2 ^ (8 * n + at * 8) * 2 ^ (8 * n + at * 8)) place
    ∙ ap (λ (p : ℕ). w % 2 ^ (8 * at) + v % 2 ^ (8 * n) * 2 ^ (8 * at) + w / 2 ^ p * 2 ^ p) end)

-- a store of the whole word
masked_word : (w v : ℕ) → w < 2 ^ 32 → v < 2 ^ 32 → masked 0 0 w v ≡ v
masked_word w v below fits = masked_is 32 0 0 w v refl (omega arith) below ∙ omega (arith, below, fits)

-- by the tests of the width
by_width : (one two four : Bool) (addr width o w v : ℕ) → (two ≡ true → width ≡ 2) → (four ≡ true → width ≡ 4) → w < 2 ^ 32 → v < 2 ^ 32
    → o ≡ (if one then 24 else (if two then 16 else 0)) → ((one || (two || four)) && (addr % width == 0)) ≡ true
    → masked o (addr % 4 * 8) w v ≡ (if one then with_bytes (addr % 4) 1 v w else (if two then with_bytes (addr % 4) 2 v w else v))
by_width true two four addr width o w v is2 is4 below fits e aligned =
    masked_bytes 1 (addr % 4) o w v (omega (arith, e)) (omega arith) below
by_width false true four addr width o w v is2 is4 below fits e aligned =
    let even : addr % 2 ≡ 0 = subst (λ (n : ℕ). addr % n ≡ 0) (is2 refl) (eqb-true (addr % width) 0 aligned) in
    masked_bytes 2 (addr % 4) o w v (omega (arith, e)) (omega (arith, even)) below
by_width false false true addr width o w v is2 is4 below fits e aligned =
    let here : addr % 4 ≡ 0 = subst (λ (n : ℕ). addr % n ≡ 0) (is4 refl) (eqb-true (addr % width) 0 aligned) in
    ap (λ (n : ℕ). masked n (addr % 4 * 8) w v) e ∙ (ap (λ (n : ℕ). masked 0 (n * 8) w v) here ∙ masked_word w v below fits)
by_width false false false addr width o w v is2 is4 below fits e aligned = cc

-- the word after a store, by the mask that leaves out the bits of the widths 1 and 2 that are not stored
pub masked_store : (addr width o w v : ℕ) → w < 2 ^ 32 → v < 2 ^ 32 → o ≡ (if width == 1 then 24 else (if width == 2 then 16 else 0))
    → is_aligned addr width ≡ true → masked o (addr % 4 * 8) w v ≡ stored_word addr width v w
masked_store addr width o w v below fits e aligned =
    by_width (width == 1) (width == 2) (width == 4) addr width o w v (eqb-true width 2) (eqb-true width 4) below fits e aligned
