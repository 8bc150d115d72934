-- Eight hexadecimal digits in a word of 64 bits, one a byte, and their characters.
use Rattle.std.proofs.Common.{◌≡◌, ℕ, ◌+◌, ◌-◌, ◌*◌, ◌/◌, ◌%◌, ◌^◌, ◌<◌, ◌==◌, true, List, [], ◌∷◌, map, slice_index, ◌∙◌, ap, refl, arith}
use Rattle.std.specs.Prelude.{bit_and}
use Rattle.std.specs.Int.{w64, to_be_bytes}
use Rattle.std.specs.List.{AllByRecursion}
use Rattle.std.specs.Str.{IsAscii}
use Rattle.std.proofs.lemmas.Bool.{agree_below_at, eqb-true}
use Rattle.std.proofs.lemmas.Nat.{and_block, and_mask, be_bytes_8}
use Rattle.std.proofs.lemmas.Str.Ascii.{IsAscii-nil, IsAscii-cons}
use Rattle.hex.specs.Hex.{lower_digits, encode_with}
use Rattle.rv_text.specs.Instructions.{hex8}

-- the halves of a number, 32 bits apart
abbrev pub halves_of : ℕ → ℕ
halves_of n = n / 2 ^ 16 * 0x100000000 + n % 0x10000

-- the bytes of two halves, 16 bits apart
abbrev pub bytes_of : ℕ → ℕ
bytes_of halves = halves + bit_and (halves / 2 ^ 8) 0x000000ff000000ff * 0xff00

-- the digits of four bytes, 8 bits apart
abbrev pub digits_of : ℕ → ℕ
digits_of bytes = bytes + bit_and (bytes / 2 ^ 4) 0x000f000f000f000f * 0xf0

-- a 1 for each of the eight digits that is a letter
abbrev pub letters_of : ℕ → ℕ
letters_of digits = bit_and ((digits + 0x0606060606060606) / 2 ^ 4) 0x0101010101010101

-- eight digits in ASCII
abbrev pub ascii_of : ℕ → ℕ
ascii_of digits = digits + 0x3030303030303030 + letters_of digits * 39

-- numbers of so many bits each, side by side, the lowest first
abbrev side_by_side : ℕ → List ℕ → ℕ
side_by_side bits [] = 0
side_by_side bits (x ∷ xs) = side_by_side bits xs * 2 ^ bits + x

-- a digit
abbrev IsDigit : ℕ → Type 0
IsDigit v = v < 16

-- a digit is a letter from 10 on
abbrev letter_of : ℕ → ℕ
letter_of v = (v + 6) / 16

-- the code of a digit
abbrev code : ℕ → ℕ
code v = 48 + v + letter_of v * 39

-- ---- masks

-- a mask that keeps the low j bits of the first number
lane : (k j rest mask x : ℕ) → 2 ^ j - 1 < 2 ^ k → x < 2 ^ k → bit_and (rest * 2 ^ k + x) (mask * 2 ^ k + (2 ^ j - 1)) ≡ bit_and rest mask * 2 ^ k + x % 2 ^ j
lane k j rest mask x within lt = and_block k rest mask x (2 ^ j - 1) lt within ∙ ap (λ z. bit_and rest mask * 2 ^ k + z) (and_mask x j)

-- a mask that keeps the low j bits of each number
masked : (k j : ℕ) → 2 ^ j - 1 < 2 ^ k → (xs : List ℕ) → AllByRecursion (λ x. x < 2 ^ k) xs
    → bit_and (side_by_side k xs) (side_by_side k (map (λ _. 2 ^ j - 1) xs)) ≡ side_by_side k (map (λ x. x % 2 ^ j) xs)
masked k j within [] all = refl
masked k j within (x ∷ xs) all =
    lane k j (side_by_side k xs) (side_by_side k (map (λ _. 2 ^ j - 1) xs)) x within all.0
    ∙ ap (λ z. z * 2 ^ k + x % 2 ^ j) (masked k j within xs all.1)

-- ---- the digits apart

bytes_apart : (a b c d : ℕ) → a < 256 → b < 256 → c < 256 → d < 256
    → bytes_of (a + b * 2 ^ 8 + (c + d * 2 ^ 8) * 2 ^ 32) ≡ side_by_side 16 (a ∷ b ∷ c ∷ d ∷ [])
bytes_apart a b c d la lb lc ld =
    let shifted : (a + b * 2 ^ 8 + (c + d * 2 ^ 8) * 2 ^ 32) / 2 ^ 8 ≡ side_by_side 32 ((b + c * 2 ^ 24) ∷ d ∷ []) = omega arith in
    let upper : bit_and ((a + b * 2 ^ 8 + (c + d * 2 ^ 8) * 2 ^ 32) / 2 ^ 8) 0x000000ff000000ff ≡ side_by_side 32 ((b + c * 2 ^ 24) % 2 ^ 8 ∷ d % 2 ^ 8 ∷ []) =
    ap (λ z. bit_and z 0x000000ff000000ff) shifted ∙ masked 32 8 (omega arith) ((b + c * 2 ^ 24) ∷ d ∷ []) (omega arith, (omega arith, tt)) in
    omega (arith, upper)

digits_apart : (a b c d e f g h : ℕ) → AllByRecursion IsDigit (a ∷ b ∷ c ∷ d ∷ e ∷ f ∷ g ∷ h ∷ [])
    → digits_of (side_by_side 16 ((a + b * 2 ^ 4) ∷ (c + d * 2 ^ 4) ∷ (e + f * 2 ^ 4) ∷ (g + h * 2 ^ 4) ∷ [])) ≡ side_by_side 8 (a ∷ b ∷ c ∷ d ∷ e ∷ f ∷ g ∷ h ∷ [])
digits_apart a b c d e f g h (la, (lb, (lc, (ld, (le, (lf, (lg, (lh, _)))))))) =
    let bytes : ℕ = side_by_side 16 ((a + b * 2 ^ 4) ∷ (c + d * 2 ^ 4) ∷ (e + f * 2 ^ 4) ∷ (g + h * 2 ^ 4) ∷ []) in
    let shifted : bytes / 2 ^ 4 ≡ side_by_side 16 ((b + c * 2 ^ 12) ∷ (d + e * 2 ^ 12) ∷ (f + g * 2 ^ 12) ∷ h ∷ []) = omega arith in
    let upper : bit_and (bytes / 2 ^ 4) 0x000f000f000f000f
    ≡ side_by_side 16 ((b + c * 2 ^ 12) % 2 ^ 4 ∷ (d + e * 2 ^ 12) % 2 ^ 4 ∷ (f + g * 2 ^ 12) % 2 ^ 4 ∷ h % 2 ^ 4 ∷ []) =
    ap (λ z. bit_and z 0x000f000f000f000f) shifted
    ∙ masked 16 4 (omega arith) ((b + c * 2 ^ 12) ∷ (d + e * 2 ^ 12) ∷ (f + g * 2 ^ 12) ∷ h ∷ []) (omega arith, (omega arith, (omega arith, (omega arith, tt)))) in
    omega (arith, upper)

-- the digits of a number are moved apart
apart : (a b c d e f g h : ℕ) → AllByRecursion IsDigit (a ∷ b ∷ c ∷ d ∷ e ∷ f ∷ g ∷ h ∷ [])
    → digits_of (bytes_of (halves_of (side_by_side 4 (a ∷ b ∷ c ∷ d ∷ e ∷ f ∷ g ∷ h ∷ [])))) ≡ side_by_side 8 (a ∷ b ∷ c ∷ d ∷ e ∷ f ∷ g ∷ h ∷ [])
apart a b c d e f g h (la, (lb, (lc, (ld, (le, (lf, (lg, (lh, end)))))))) =
    let halves : halves_of (side_by_side 4 (a ∷ b ∷ c ∷ d ∷ e ∷ f ∷ g ∷ h ∷ []))
    ≡ a + b * 2 ^ 4 + (c + d * 2 ^ 4) * 2 ^ 8 + (e + f * 2 ^ 4 + (g + h * 2 ^ 4) * 2 ^ 8) * 2 ^ 32 = omega arith in
    ap (λ z. digits_of (bytes_of z)) halves
    ∙ ap digits_of (bytes_apart (a + b * 2 ^ 4) (c + d * 2 ^ 4) (e + f * 2 ^ 4) (g + h * 2 ^ 4) (omega arith) (omega arith) (omega arith) (omega arith))
    ∙ digits_apart a b c d e f g h (la, (lb, (lc, (ld, (le, (lf, (lg, (lh, end))))))))

-- ---- the digits as characters

-- the first of some digits is a letter
letter : (rest mask v : ℕ) → IsDigit v
    → bit_and ((rest * 2 ^ 8 + (v + 6)) / 2 ^ 4) (mask * 2 ^ 8 + 1) ≡ bit_and (rest / 2 ^ 4) mask * 2 ^ 8 + letter_of v
letter rest mask v lt =
    let r : ℕ = rest % 2 ^ 4 * 2 ^ 4 + letter_of v in
    let e : (rest * 2 ^ 8 + (v + 6)) / 2 ^ 4 ≡ rest / 2 ^ 4 * 2 ^ 8 + r = omega arith in
    ap (λ z. bit_and z (mask * 2 ^ 8 + 1)) e ∙ lane 8 1 (rest / 2 ^ 4) mask r (omega arith) (omega arith) ∙ omega arith

-- which of some digits are letters
letters : (vs : List ℕ) → AllByRecursion IsDigit vs
    → bit_and (side_by_side 8 (map (λ v. v + 6) vs) / 2 ^ 4) (side_by_side 8 (map (λ _. 1) vs)) ≡ side_by_side 8 (map letter_of vs)
letters [] all = refl
letters (v ∷ vs) all =
    letter (side_by_side 8 (map (λ v. v + 6) vs)) (side_by_side 8 (map (λ _. 1) vs)) v all.0
    ∙ ap (λ z. z * 2 ^ 8 + letter_of v) (letters vs all.1)

-- the digits become characters
as_text : (a b c d e f g h : ℕ) → AllByRecursion IsDigit (a ∷ b ∷ c ∷ d ∷ e ∷ f ∷ g ∷ h ∷ []) → ascii_of (side_by_side 8 (a ∷ b ∷ c ∷ d ∷ e ∷ f ∷ g ∷ h ∷ [])) ≡ side_by_side 8 (map code (a ∷ b ∷ c ∷ d ∷ e ∷ f ∷ g ∷ h ∷ []))
as_text a b c d e f g h all =
    let sum : side_by_side 8 (a ∷ b ∷ c ∷ d ∷ e ∷ f ∷ g ∷ h ∷ []) + 0x0606060606060606 ≡ side_by_side 8 (map (λ v. v + 6) (a ∷ b ∷ c ∷ d ∷ e ∷ f ∷ g ∷ h ∷ [])) = omega arith in
    let are : letters_of (side_by_side 8 (a ∷ b ∷ c ∷ d ∷ e ∷ f ∷ g ∷ h ∷ [])) ≡ side_by_side 8 (map letter_of (a ∷ b ∷ c ∷ d ∷ e ∷ f ∷ g ∷ h ∷ [])) =
    ap (λ z. bit_and (z / 2 ^ 4) 0x0101010101010101) sum ∙ letters (a ∷ b ∷ c ∷ d ∷ e ∷ f ∷ g ∷ h ∷ []) all in
    omega (arith, are)

-- the character of a digit
character : (v : ℕ) → IsDigit v → slice_index lower_digits v ≡ code v
character v lt = eqb-true _ _ (agree_below_at (λ k. slice_index lower_digits k == code k) (λ _. true) 16 v refl lt)

-- characters are ASCII
characters : (vs : List ℕ) → AllByRecursion IsDigit vs → IsAscii (map (slice_index lower_digits) vs)
characters [] all = IsAscii-nil
characters (v ∷ vs) all = IsAscii-cons (slice_index lower_digits v) (map (slice_index lower_digits) vs) (omega (arith, character v all.0)) (characters vs all.1)

-- ---- the whole

pub ascii_of_hex8 : (n : ℕ) → n < 2 ^ 32 → to_be_bytes w64 (ascii_of (digits_of (bytes_of (halves_of n)))) ≡ hex8 n
unfolding hex8 encode_with
ascii_of_hex8 n lt =
    let a : ℕ = n % 256 % 16 in
    let b : ℕ = n % 256 / 16 in
    let c : ℕ = n / 256 % 256 % 16 in
    let d : ℕ = n / 256 % 256 / 16 in
    let e : ℕ = n / 65536 % 256 % 16 in
    let f : ℕ = n / 65536 % 256 / 16 in
    let g : ℕ = n / 16777216 % 256 % 16 in
    let h : ℕ = n / 16777216 % 256 / 16 in
    let is : n ≡ side_by_side 4 (a ∷ b ∷ c ∷ d ∷ e ∷ f ∷ g ∷ h ∷ []) = omega arith in
    let all : AllByRecursion IsDigit (a ∷ b ∷ c ∷ d ∷ e ∷ f ∷ g ∷ h ∷ []) =
    (omega arith, (omega arith, (omega arith, (omega arith, (omega arith, (omega arith, (omega arith, (omega arith, tt)))))))) in
    let down : AllByRecursion IsDigit (h ∷ g ∷ f ∷ e ∷ d ∷ c ∷ b ∷ a ∷ []) =
    (omega arith, (omega arith, (omega arith, (omega arith, (omega arith, (omega arith, (omega arith, (omega arith, tt)))))))) in
    let value : ascii_of (digits_of (bytes_of (halves_of n))) ≡ side_by_side 8 (map code (a ∷ b ∷ c ∷ d ∷ e ∷ f ∷ g ∷ h ∷ [])) =
    ap (λ z. ascii_of (digits_of (bytes_of (halves_of z)))) is ∙ ap ascii_of (apart a b c d e f g h all) ∙ as_text a b c d e f g h all in
    be_bytes_8 (map (slice_index lower_digits) (h ∷ g ∷ f ∷ e ∷ d ∷ c ∷ b ∷ a ∷ [])) _ refl
    (λ i. omega (arith, characters (h ∷ g ∷ f ∷ e ∷ d ∷ c ∷ b ∷ a ∷ []) down i))
    (omega (arith, value, character a (omega arith), character b (omega arith), character c (omega arith), character d (omega arith), character e (omega arith), character f (omega arith), character g (omega arith), character h (omega arith)))
