-- A hart's quiet instructions, and the segment that is decoded ahead.
use Rattle.std.specs.Prelude.{◌≡◌, ◌<◌, ℕ, ◌+◌, ◌-◌, ◌^◌, min, Bool, List, Option, Some, None, is_some}
use Rattle.bn_base.specs.Programs.{Part, Program, code_at, part_at}
use Rattle.rv_meaning.specs.Execute.{ask_of}
use Rattle.rv_meaning.specs.declared.asks.Ask.{Ask}
use Rattle.rv_meaning.specs.declared.asks.Want.{Want}

-- quiet instructions of a program lead from a pc and registers to others, and leave c of a budget of b: the hart asks the same from there
abbrev pub LeadsTo : Program → (b pc : ℕ) → (x : List ℕ) → (c p : ℕ) → (y : List ℕ) → Type 0
LeadsTo i b pc x c p y = (ic : ℕ) → ic < 2 ^ 64 → ask_of i c (record { pc = p; x = y; ic = min (ic + (b - c)) (2 ^ 64 - 1) }) ≡ ask_of i b (record { pc = pc; x = x; ic = ic })

-- the first address of the segment that a program starts in; 0 if it starts in none
abbrev pub start_of : Option Part → ℕ
start_of None = 0
start_of (Some p) = p.first

-- whether that segment's first word is code
abbrev pub starts_in_code : Program → Bool
starts_in_code i = is_some (code_at i (start_of (part_at i.parts i.entry)))

-- ---- a hart's way through its code

-- what is seen of it: the program, the pc, and how many instructions may still be done
pub record Walking : Type 0 where
  pub program : Program
  pub pc : ℕ
  pub left : ℕ

-- a hart with these registers asks this there, whatever its count, if it may still do an instruction
abbrev pub AsksThere : Walking → List ℕ → Want → Type 0
AsksThere w x want = (left ic : ℕ) → 0 < left → ◌≡◌ {A = Ask} (record { state = record { pc = w.pc; x = x; ic = ic }; want = want }) (ask_of w.program left (record { pc = w.pc; x = x; ic = ic }))
