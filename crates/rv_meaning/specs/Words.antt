-- Arithmetic on words of 32 bits, which are seen as the numbers below 2 ^ 32. The sections are those of the
-- RISC-V unprivileged specification, version 20191213.
use Rattle.std.specs.Prelude.{ℕ, ◌+◌, ◌-◌, ◌*◌, ◌/◌, ◌%◌, ◌^◌, ◌==◌, nat_lt, Bool, if◌then◌else◌, ℤ, pos, ◌*ℤ◌, int_lt, int_div, int_rem}
use Rattle.std.specs.Int.{cast_signed, cast_unsigned, w32, w64, int_shr}

-- the low 32 bits of a number: overflow is ignored
abbrev pub wrap : ℕ → ℕ
wrap n = n % 2 ^ 32

-- the sum, in 32 bits
abbrev pub add : ℕ → ℕ → ℕ
add a b = wrap (a + b)

-- the difference, in 32 bits
abbrev pub sub : ℕ → ℕ → ℕ
sub a b = wrap (a + (2 ^ 32 - b))

-- a word as a signed number, in two's complement
abbrev pub signed_of : ℕ → ℤ
signed_of a = cast_signed w32 a

-- the word that a signed number is in two's complement, for numbers from -2 ^ 32 to 2 ^ 32 - 1
abbrev pub bits_of : ℤ → ℕ
bits_of z = cast_unsigned w32 z

-- 1 if a comparison holds, else 0
abbrev pub flag : Bool → ℕ
flag b = if b then 1 else 0

-- less, as signed numbers
abbrev pub less : ℕ → ℕ → Bool
less a b = int_lt (signed_of a) (signed_of b)

-- shifts use the low 5 bits of the amount (section 2.4.2); zeros come in at the lower bits
abbrev pub shift_left : ℕ → ℕ → ℕ
shift_left a n = wrap (a * 2 ^ (n % 32))

-- zeros come in at the upper bits
abbrev pub shift_right : ℕ → ℕ → ℕ
shift_right a n = a / 2 ^ (n % 32)

-- copies of the sign bit come in at the upper bits
abbrev pub shift_right_signed : ℕ → ℕ → ℕ
shift_right_signed a n = bits_of (int_shr (signed_of a) (n % 32))

-- the lower 32 bits of a product (section 7.1), the same for signed and unsigned numbers
abbrev pub mul : ℕ → ℕ → ℕ
mul a b = wrap (a * b)

-- the upper 32 bits of a product of 64 bits, in two's complement (section 7.1)
abbrev pub high_of : ℤ → ℕ
high_of z = cast_unsigned w64 z / 2 ^ 32

-- signed by signed, signed by unsigned, and unsigned by unsigned
abbrev pub high_signed : ℕ → ℕ → ℕ
high_signed a b = high_of (signed_of a *ℤ signed_of b)

-- the upper 32 bits of the product of a signed number and an unsigned one
abbrev pub high_mixed : ℕ → ℕ → ℕ
high_mixed a b = high_of (signed_of a *ℤ pos b)

-- the upper 32 bits of the product of two unsigned numbers
abbrev pub high_unsigned : ℕ → ℕ → ℕ
high_unsigned a b = a * b / 2 ^ 32

-- division rounds towards zero, and the sign of a remainder is that of the dividend (section 7.2). By zero the
-- quotient has all bits set and the remainder is the dividend; the overflow of -2 ^ 31 by -1 gives the quotient
-- -2 ^ 31 and the remainder 0
abbrev pub div_signed : ℕ → ℕ → ℕ
div_signed a b = if b == 0 then 2 ^ 32 - 1 else bits_of (int_div (signed_of a) (signed_of b))

-- the remainder of signed numbers; by zero it is the dividend
abbrev pub rem_signed : ℕ → ℕ → ℕ
rem_signed a b = if b == 0 then a else bits_of (int_rem (signed_of a) (signed_of b))

-- the quotient of unsigned numbers; by zero it has all bits set
abbrev pub div_unsigned : ℕ → ℕ → ℕ
div_unsigned a b = if b == 0 then 2 ^ 32 - 1 else a / b

-- the remainder of unsigned numbers; by zero it is the dividend
abbrev pub rem_unsigned : ℕ → ℕ → ℕ
rem_unsigned a b = if b == 0 then a else a % b

-- the number of k bits, sign-extended to 32
abbrev pub sign_extend : ℕ → ℕ → ℕ
sign_extend k v = if nat_lt v (2 ^ (k - 1)) then v else v + (2 ^ 32 - 2 ^ k)

-- the address of the aligned word that an address is in
abbrev pub aligned : ℕ → ℕ
aligned a = a / 4 * 4

-- n bytes of a word from byte `at` on; bytes count from the lowest, since memory is little-endian
abbrev pub bytes_at : ℕ → ℕ → ℕ → ℕ
bytes_at at n w = w / 2 ^ (8 * at) % 2 ^ (8 * n)

-- the word w with its n bytes from byte `at` on replaced by the lowest n bytes of v
abbrev pub with_bytes : ℕ → ℕ → ℕ → ℕ → ℕ
with_bytes at n v w = w % 2 ^ (8 * at) + v % 2 ^ (8 * n) * 2 ^ (8 * at) + w / 2 ^ (8 * (at + n)) * 2 ^ (8 * (at + n))
