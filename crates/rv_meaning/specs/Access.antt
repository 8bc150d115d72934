-- What the accesses to memory give and leave. The sections are those of the RISC-V unprivileged specification,
-- version 20191213.
use Rattle.std.specs.Prelude.{ℕ, ◌*◌, ◌/◌, ◌%◌, ◌^◌, ◌==◌, min, max, Bool, true, false, if◌then◌else◌, bit_and, bit_or, bit_xor}
use Rattle.rv_meaning.specs.Words.{add, less, sign_extend, with_bytes}
use Rattle.rv_meaning.specs.declared.amo.AmoOp.{AmoOp}
use Rattle.rv_meaning.specs.declared.amo.AmoOp.TheVariants as ops

-- a number of k bits in 32 bits: sign-extended or zero-extended
abbrev pub extended : Bool → ℕ → ℕ → ℕ
extended true k v = sign_extend k v
extended false k v = v

-- what a load of this width gives, w being the aligned word of its address (section 2.6): the byte or halfword from
-- the address on, extended to 32 bits, or the word
abbrev pub loaded_value : ℕ → ℕ → Bool → ℕ → ℕ
loaded_value addr width signed w =
    let low = w / 2 ^ (8 * (addr % 4)) in
    if width == 1 then extended signed 8 (low % 2 ^ 8) else
    if width == 2 then extended signed 16 (low % 2 ^ 16) else
    low

-- the aligned word of the address after a store of this width, w being that word before (section 2.6): its byte or
-- halfword from the address on, or the word, is that of the value
abbrev pub stored_word : ℕ → ℕ → ℕ → ℕ → ℕ
stored_word addr width value w =
    if width == 1 then with_bytes (addr % 4) 1 value w else
    if width == 2 then with_bytes (addr % 4) 2 value w else
    value

-- what an atomic memory operation stores: the operation on the word before and the contents of rs2 (section 8.4)
abbrev pub amo_result : AmoOp → ℕ → ℕ → ℕ
amo_result ops.Swap w b = b
amo_result ops.Add w b = add w b
amo_result ops.Xor w b = bit_xor w b
amo_result ops.And w b = bit_and w b
amo_result ops.Or w b = bit_or w b
amo_result ops.Min w b = if less w b then w else b
amo_result ops.Max w b = if less w b then b else w
amo_result ops.MinU w b = min w b
amo_result ops.MaxU w b = max w b
