-- The file of a generated program (ELF, "ELF Header" and "Program Header").
use Rattle.std.specs.Prelude.{ℕ, List, [], ◌∷◌, ◌++◌}
use Rattle.std.specs.List.{flat_map}
use Rattle.le_numbers.specs.Numbers.{number_bytes}
use Rattle.rv_decode.specs.Table.{Instruction}
use Rattle.rv_decode.specs.Encode.{encoded}
use Rattle.guest_gen.specs.declared.kind.Kind.{Kind}
use Rattle.guest_gen.specs.Code.{code}

-- numbers of four bytes each, one after another
abbrev pub words : List ℕ → List ℕ
words = flat_map (number_bytes 4)

-- numbers of two bytes each
abbrev pub halves : List ℕ → List ℕ
halves = flat_map (number_bytes 2)

-- e_ident: the magic number (127 and "ELF"), 32 bits (1), least significant byte first (1), version 1; nine bytes are 0
unfoldable pub identification : List ℕ
identification = 127 ∷ 69 ∷ 76 ∷ 70 ∷ 1 ∷ 1 ∷ 1 ∷ 0 ∷ 0 ∷ 0 ∷ 0 ∷ 0 ∷ 0 ∷ 0 ∷ 0 ∷ 0 ∷ []

-- the ELF header: an executable (2) for RISC-V (243), version 1, that starts at 00010000 (65536). Its program headers
-- follow at 52, which is its own size; they are 2, of 32 bytes each. It has no section headers and no flags (0)
unfoldable pub file_header : List ℕ
file_header = identification ++ halves (2 ∷ 243 ∷ []) ++ words (1 ∷ 65536 ∷ 52 ∷ 0 ∷ 0 ∷ []) ++ halves (52 ∷ 32 ∷ 2 ∷ 0 ∷ 0 ∷ 0 ∷ [])

-- a program header: type (1 is a segment that is loaded), offset, the address twice, size in the file, size in memory,
-- flags and alignment
abbrev pub program_header : (offset address filesz memsz flags : ℕ) → List ℕ
program_header offset address filesz memsz flags = words (1 ∷ offset ∷ address ∷ address ∷ filesz ∷ memsz ∷ flags ∷ 4 ∷ [])

-- the headers, which take 52 + 2 * 32 = 116 bytes. At 00010000 stand 260 words of code (1040 bytes) that is read and
-- executed (5). They follow in the file, which ends with them at 1156. At 00020000 (131072) begins a page of data (4096
-- bytes, of which the file has none) that is read and written (6)
unfoldable pub headers : List ℕ
headers = file_header ++ program_header 116 65536 1040 1040 5 ++ program_header 1156 131072 0 4096 6

-- the bytes of instructions
unfoldable pub code_bytes : List Instruction → List ℕ
code_bytes = flat_map (λ i. number_bytes 4 (encoded i))

-- the bytes of the file
unfoldable pub guest_bytes : ℕ → Kind → List ℕ
guest_bytes seed kind = headers ++ code_bytes (code seed kind)
