-- The code of a generated program: which instructions a number gives.
use Rattle.std.specs.Prelude.{if◌then◌else◌, ℕ, zero, suc, ◌+◌, ◌-◌, ◌*◌, ◌/◌, ◌%◌, ◌^◌, ◌==◌, false, List, [], ◌∷◌, ◌++◌, map, pos, negsuc, Some, ◌≡◌, ◌≢◌, ◌<◌}
use Rattle.rv_decode.specs.declared.name.Name.{Name}
use Rattle.rv_decode.specs.declared.name.Name.TheVariants.{Lui, Jal, Lw, Sb, Sw, Addi, Slli, Add, Xor, Mul, AmoaddW, Fence}
use Rattle.rv_decode.specs.Table.{Instruction, decoded}
use Rattle.rv_decode.specs.Encode.{encoded}
use Rattle.guest_gen.specs.declared.kind.Kind.{Kind}
use Rattle.guest_gen.specs.declared.kind.Kind.TheVariants.{Loop, Crash}

-- the registers that the code uses, by the numbers that their names have (RISC-V psABI, "Integer Register Convention")
abbrev pub t1 : ℕ
t1 = 6

-- the number of register t2
abbrev pub t2 : ℕ
t2 = 7

-- the number of register s0
abbrev pub s0 : ℕ
s0 = 8

-- the number of register s1
abbrev pub s1 : ℕ
s1 = 9

-- the number of register a0
abbrev pub a0 : ℕ
a0 = 10

-- an instruction with a destination, a source and an immediate; a load's source and immediate give its address
abbrev pub with_immediate : Name → (rd rs1 imm : ℕ) → Instruction
with_immediate n rd rs1 imm = record { name = n; rd = rd; rs1 = rs1; rs2 = 0; imm = pos imm; aq = false; rl = false }

-- a store of rs2 at the address that rs1 and the immediate give
abbrev pub storing : Name → (rs2 rs1 imm : ℕ) → Instruction
storing n rs2 rs1 imm = record { name = n; rd = 0; rs1 = rs1; rs2 = rs2; imm = pos imm; aq = false; rl = false }

-- an instruction with a destination and two sources
abbrev pub of_registers : Name → (rd rs1 rs2 : ℕ) → Instruction
of_registers n rd rs1 rs2 = record { name = n; rd = rd; rs1 = rs1; rs2 = rs2; imm = pos 0; aq = false; rl = false }

-- a jump back by so many bytes, at least one, that keeps no return address
abbrev pub jump_back : ℕ → Instruction
jump_back bytes = record { name = Jal; rd = 0; rs1 = 0; rs2 = 0; imm = negsuc (bytes - 1); aq = false; rl = false }

-- the generator's next state: multiplication and addition modulo 2 ^ 64
abbrev pub next : ℕ → ℕ
next s = (s * 6364136223846793005 + 1442695040888963407) % 2 ^ 64

-- n draws after a state: each is the next state without its lowest 33 bits
unfoldable pub draws : ℕ → ℕ → List ℕ
draws zero s = []
draws (suc n) s = next s / 2 ^ 33 ∷ draws n (next s)

-- the instruction of a choice and a number
abbrev pub chosen : (choice k : ℕ) → Instruction
chosen choice k =
    if choice == 0 then with_immediate Addi t1 t1 k else
    if choice == 1 then of_registers Xor t2 t2 t1 else
    if choice == 2 then with_immediate Lw t1 s0 (4 * k) else
    if choice == 3 then storing Sw t1 s0 (4 * k) else
    if choice == 4 then storing Sb t2 s0 (4 * k) else
    if choice == 5 then of_registers AmoaddW t1 s0 t2 else
    if choice == 6 then of_registers Mul t2 t1 t2 else
    with_immediate Lw t2 s1 (256 + 4 * k)

-- the instruction of a draw: its lowest three bits are the choice, and the six above them the number
abbrev pub slot : ℕ → Instruction
slot r = chosen (r % 8) (r / 8 % 64)

-- before the slots: s0 is 00020000, the address of the words of all harts, and s1 is 256 bytes a hart further
unfoldable pub opening : List Instruction
opening = with_immediate Lui s0 0 131072 ∷ with_immediate Slli s1 a0 8 ∷ of_registers Add s1 s1 s0 ∷ []

-- after the slots: a jump back to the first of them, or a load from address 0, which isn't mapped
abbrev pub closing : Kind → Instruction
closing Loop = jump_back 1024
closing Crash = with_immediate Lw t1 0 0

-- the code: the opening, 256 slots, the closing
unfoldable pub code : ℕ → Kind → List Instruction
code seed kind = opening ++ (map slot (draws 256 seed) ++ (closing kind ∷ []))

-- the instruction stands in the table: it is what its word decodes to, and no fence, which has several words
abbrev pub IsCode : Instruction → Type 0
IsCode i = (encoded i < 2 ^ 32) × (decoded (encoded i) ≡ Some i) × (i.name ≢ Fence)
