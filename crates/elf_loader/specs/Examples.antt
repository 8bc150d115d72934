-- Heads of small ELF files.
use Rattle.std.specs.Prelude.{ℕ, [], ◌∷◌, ◌++◌, List}
use Rattle.le_numbers.specs.Numbers.{number_bytes}

-- the bytes that begin a 32-bit, little-endian file
abbrev pub ident : List ℕ
ident = 0x7f ∷ 0x45 ∷ 0x4c ∷ 0x46 ∷ 1 ∷ 1 ∷ 1 ∷ 0 ∷ 0 ∷ 0 ∷ 0 ∷ 0 ∷ 0 ∷ 0 ∷ 0 ∷ 0 ∷ []

-- an ELF header of this kind, for this machine, with these flags and so many program headers, that should follow it
abbrev pub head : (kind machine flags count : ℕ) → List ℕ
head kind machine flags count =
    ident ++ number_bytes 2 kind ++ number_bytes 2 machine ++ number_bytes 4 1 ++ number_bytes 4 65620 ++ number_bytes 4 52 ++ number_bytes 4 0
    ++ number_bytes 4 flags ++ number_bytes 2 52 ++ number_bytes 2 32 ++ number_bytes 2 count ++ number_bytes 4 0 ++ number_bytes 2 0

-- the header of a segment that has no byte in the file, executable
abbrev pub segment : (address size : ℕ) → List ℕ
segment address size =
    number_bytes 4 1 ++ number_bytes 4 0 ++ number_bytes 4 address ++ number_bytes 4 0 ++ number_bytes 4 0 ++ number_bytes 4 size ++ number_bytes 4 5
    ++ number_bytes 4 4
