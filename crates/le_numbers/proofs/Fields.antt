-- A number that is written is read back, and bytes that are read are the bytes of the number.
use Rattle.std.proofs.Common.{◌≡◌, ℕ, zero, suc, ◌+◌, ◌*◌, ◌/◌, ◌%◌, ◌^◌, ◌<◌, ◌≤◌, List, [], ◌∷◌, ◌++◌, length, take, drop, refl, sym, ap, ap₂, ◌∙◌, append_assoc, arith}
use Rattle.std.specs.Int.{byte_at, bytes_low_first}
use Rattle.std.proofs.Math.Nat.{div-div-eq-div-mul, pow-suc}
use Rattle.std.proofs.lemmas.List.{drop-drop, take-append-drop, drop_at, get_or-drop, length-drop}
use Rattle.byteorder.specs.Endian.{little_from}
use Rattle.byteorder.specs.Numbers.{little_from-cons, little_from-lt, little_number-reads_back, length-bytes_low_first}
use Rattle.le_numbers.specs.Numbers.{number_at, number_bytes, AreBytes}

-- a field is as long as its width says
pub length-number_bytes : (width n : ℕ) → length (number_bytes width n) ≡ width
unfolding number_bytes
length-number_bytes width n = length-bytes_low_first 0 width n

-- the bytes after the first are those of the number without its least significant byte
bytes_behind : (width place n : ℕ) → bytes_low_first (suc place) width n ≡ bytes_low_first place width (n / 256)
bytes_behind zero place n = refl
bytes_behind (suc width) place n = ap₂ (λ (b : ℕ) (bs : List ℕ). b ∷ bs) (first place) (bytes_behind width (suc place) n)
  where
    first : (place : ℕ) → byte_at (suc place) n ≡ byte_at place (n / 256)
    first zero = refl
    first (suc place) =
        let e : n / 256 ^ suc (suc place) ≡ n / 256 / 256 ^ suc place =
        ap (λ (p : ℕ). n / p) (pow-suc 256 (suc place) ∙ omega arith) ∙ sym (div-div-eq-div-mul n 256 (256 ^ suc place)) in
        ap (λ (q : ℕ). q % 256) e

low_byte : (b m : ℕ) → b < 256 → ((b + 256 * m) % 256 ≡ b) × ((b + 256 * m) / 256 ≡ m)
low_byte b m lt = (omega arith, omega arith)

-- bytes are those of their number
spelled : (width : ℕ) (bytes : List ℕ) → AreBytes bytes → width ≤ length bytes → bytes_low_first 0 width (little_from 0 width bytes) ≡ take width bytes
spelled zero bytes are le = refl
spelled (suc width) [] are le = absurd (omega arith)
spelled (suc width) (b ∷ bytes) are le =
    let others : little_from 1 width (b ∷ bytes) ≡ little_from 0 width bytes = little_from-cons 0 width b bytes in
    let low = low_byte b (little_from 0 width bytes) (are 0) in
    rw others
    (ap₂ (λ (x : ℕ) (xs : List ℕ). x ∷ xs) low.0
    (bytes_behind width 0 (b + 256 * little_from 0 width bytes) ∙ ap (bytes_low_first 0 width) low.1 ∙ spelled width bytes (λ i. are (suc i)) (omega arith)))

pub AreBytes-drop : (n : ℕ) (bytes : List ℕ) → AreBytes bytes → AreBytes (drop n bytes)
AreBytes-drop n bytes are i = rw get_or-drop (are (n + i))

-- a number of `width` bytes is below 256 ^ width
pub number_at-small : (width at : ℕ) (bytes : List ℕ) → AreBytes bytes → number_at width at bytes < 256 ^ width
unfolding number_at
number_at-small width at bytes are = little_from-lt 0 width (drop at bytes) (AreBytes-drop at bytes are)

-- from the place of a field within the bytes, these are the bytes of its number and the rest
pub drop-number_at : (width at : ℕ) (bytes : List ℕ) → AreBytes bytes → at + width ≤ length bytes
    → drop at bytes ≡ number_bytes width (number_at width at bytes) ++ drop (at + width) bytes
unfolding number_at number_bytes
drop-number_at width at bytes are within =
    let long : width ≤ length (drop at bytes) = omega (arith, length-drop at bytes) in
    sym (take-append-drop width (drop at bytes))
    ∙ ap₂ (λ (xs ys : List ℕ). xs ++ ys) (sym (spelled width (drop at bytes) (AreBytes-drop at bytes are) long)) (drop-drop width at bytes)

-- a number is read at the place of its bytes, and what follows comes after them
pub reads_back : (width at n : ℕ) (bytes rest : List ℕ) → n < 256 ^ width → drop at bytes ≡ number_bytes width n ++ rest → (number_at width at bytes ≡ n) × (drop (at + width) bytes ≡ rest)
unfolding number_at number_bytes
reads_back width at n bytes rest small there = (
  ap (little_from 0 width) there ∙ little_number-reads_back width n rest small,
  sym (drop-drop width at bytes) ∙ ap (drop width) there ∙ drop_at (bytes_low_first 0 width n) rest width (length-bytes_low_first 0 width n),
)

pub number_at-written : (width n : ℕ) (front rest : List ℕ) → n < 256 ^ width → number_at width (length front) (front ++ number_bytes width n ++ rest) ≡ n
number_at-written width n front rest small =
    let there : drop (length front) (front ++ number_bytes width n ++ rest) ≡ number_bytes width n ++ rest =
    ap (drop (length front)) (append_assoc front (number_bytes width n) rest) ∙ drop_at front (number_bytes width n ++ rest) (length front) refl in
    (reads_back width (length front) n (front ++ number_bytes width n ++ rest) rest small there).0
