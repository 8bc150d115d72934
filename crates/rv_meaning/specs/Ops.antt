-- Code that is decoded ahead, and what its ops do.
use Rattle.std.specs.Prelude.{◌≡◌, ◌<◌, ℕ, ◌+◌, ◌*◌, ◌^◌, Bool, true, false, List, [], ◌∷◌, length, Option, Some, None, ⊤}
use Rattle.rv_meaning.specs.Common.{Program, code_at, HartState, Instruction, Name, Ebreak}
use Rattle.rv_meaning.specs.Execute.{Step, Quiet, Asks, meaning, count_up}
use Rattle.rv_meaning.specs.Rows.{instruction_in}
use Rattle.rv_meaning.specs.Words.{add, mul, bits_of}
use Rattle.rv_meaning.specs.declared.asks.Want.{Want}
use Rattle.rv_meaning.specs.declared.ops.Op.{Op}
use Rattle.rv_meaning.specs.declared.ops.Went.{Went}
use Rattle.rv_meaning.specs.declared.ops.Went.TheVariants.{On, Jumped, Stopped}

-- an op has of an instruction all that the instruction's meaning reads
pub record IsOp (op : Op) (d : Instruction) : Type 0 where
  pub name : op.name ≡ d.name
  pub rd : op.rd ≡ d.rd
  pub rs1 : op.rs1 ≡ d.rs1
  pub rs2 : op.rs2 ≡ d.rs2
  pub imm : op.imm ≡ bits_of d.imm

-- an ebreak says nothing of its word
abbrev pub is_known : Name → Bool
is_known Ebreak = false
is_known name = true

-- what an op says of a word: that it decodes to the op's instruction; a word that decodes to none has an ebreak
abbrev pub Says : Op → Option Instruction → Type 0
Says op None = is_known op.name ≡ false
Says op (Some d) = IsOp op d

-- a list of what the code words from an address on decode to
abbrev pub IsAhead : Program → ℕ → List Op → Type 0
IsAhead i a [] = ⊤
IsAhead i a (op ∷ ops) = Says op (instruction_in (code_at i a)) × IsAhead i (a + 4) ops

-- the last word of such a list has an address below 2 ^ 32
abbrev pub IsBelowEnd : ℕ → List Op → Type 0
IsBelowEnd a ops = a + 4 * length ops < 2 ^ 32 + 4

-- whether an op was done
abbrev pub is_done : Went → Bool
is_done On = true
is_done Jumped = true
is_done Stopped = false

-- whether the next op follows
abbrev pub is_on : Went → Bool
is_on On = true
is_on Jumped = false
is_on Stopped = false

-- the address of a place in a list that begins at an address
abbrev pub pc_of : ℕ → ℕ → ℕ
pc_of first place = add first (mul place 4)

-- a step from a pc and registers was quiet, and led to others; or nothing is said of it, and they are unchanged
abbrev pub Done : Bool → (pc : ℕ) → (x : List ℕ) → (p : ℕ) → (y : List ℕ) → (HartState → Step) → Type 0
Done true pc x p y does = (ic : ℕ) → Quiet (record { pc = p; x = y; ic = count_up ic }) ≡ does (record { pc = pc; x = x; ic = ic })
Done false pc x p y does = (p ≡ pc) × (y ≡ x)

-- the step of a decoded word was quiet and of an instruction, and led to others; or it was neither, and they are unchanged
abbrev pub Quietly : Bool → Program → Option Instruction → (pc : ℕ) → (x : List ℕ) → (p : ℕ) → (y : List ℕ) → Type 0
Quietly true i o pc x p y = (d : Instruction) × (o ≡ Some d) × Done true pc x p y (meaning d.name i d)
Quietly false i o pc x p y = (p ≡ pc) × (y ≡ x)

-- the step that a decoded word is asks this, from any state with these registers; or nothing is said of it
abbrev pub Asking : Bool → Program → Option Instruction → (x : List ℕ) → Want → Type 0
Asking true i o x w = (d : Instruction) × (o ≡ Some d) × ((pc ic : ℕ) → Asks w ≡ meaning d.name i d (record { pc = pc; x = x; ic = ic }))
Asking false i o x w = ⊤
