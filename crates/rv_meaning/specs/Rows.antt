-- The rows of instructions, and the words that rows tell of.
use Rattle.std.specs.Prelude.{ℕ, ◌==◌, true, false, List, [], ◌∷◌, slice_index, Option, Some, None}
use Rattle.rv_meaning.specs.Common.{Program, code_at, Fault, Row, HartState, Instruction, decoded}
use Rattle.rv_meaning.specs.Words.{aligned}

-- what a word decodes to, if there is one and it is an instruction
abbrev pub instruction_in : Option ℕ → Option Instruction
instruction_in None = None
instruction_in (Some w) = decoded w

-- the instruction at the pc
abbrev pub instruction_at : Program → HartState → Option Instruction
instruction_at i s = instruction_in (code_at i s.pc)

-- the register that an instruction names as its destination, but not x0, with its contents
abbrev pub written : Option Instruction → HartState → Option (ℕ × ℕ)
written None after = None
written (Some d) after = elim (d.rd == 0) [ true ↦ None | false ↦ Some (d.rd, slice_index after.x d.rd) ]

-- the row of an instruction that hart h did, by the states before and after it, with the word that it loaded and the
-- word that it stored
abbrev pub row_of : ℕ → Program → HartState → HartState → (load store : Option (ℕ × ℕ)) → Row
row_of h i before after load store = record {
  hart = h;
  ic = before.ic;
  pc = before.pc;
  word = code_at i before.pc;
  reg = written (instruction_at i before) after;
  load = load;
  store = store;
  fault = None;
}

-- the row of a system call: a call that continues writes its result to a0, an exit writes nothing
abbrev pub call_row : ℕ → Program → HartState → (reg : Option (ℕ × ℕ)) → Row
call_row h i before reg = record {
  hart = h;
  ic = before.ic;
  pc = before.pc;
  word = code_at i before.pc;
  reg = reg;
  load = None;
  store = None;
  fault = None;
}

-- the row of an instruction that faulted
abbrev pub fault_row : ℕ → Program → HartState → Fault → ℕ → Row
fault_row h i before kind value = record {
  hart = h;
  ic = before.ic;
  pc = before.pc;
  word = code_at i before.pc;
  reg = None;
  load = None;
  store = None;
  fault = Some (kind, value);
}

-- the word of an access if it is of the aligned word at a, else what is known without it
abbrev pub at_address : ℕ → Option (ℕ × ℕ) → Option ℕ → Option ℕ
at_address a None rest = rest
at_address a (Some access) rest = elim (aligned access.0 == a) [ true ↦ Some access.1 | false ↦ rest ]

-- the word that the latest of the rows, which are given latest first, stored at the aligned address a, or else loaded
abbrev pub known : ℕ → List Row → Option ℕ
known a [] = None
known a (r ∷ rs) = at_address a r.store (at_address a r.load (known a rs))
