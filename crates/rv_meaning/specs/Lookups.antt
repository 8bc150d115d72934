-- Rows that are made in two parts: what is looked up before an instruction is done, and what is known after it.
use Rattle.std.specs.Prelude.{ℕ, ◌==◌, true, false, List, slice_index, Option, Some, None}
use Rattle.rv_meaning.specs.Common.{Program, code_at, Fault, Row, HartState, Instruction}
use Rattle.rv_meaning.specs.Rows.{instruction_at}
use Rattle.rv_meaning.specs.declared.fetched.Fetched.{Fetched}

-- the destination of an instruction, but not x0
abbrev pub destination : Option Instruction → Option ℕ
destination None = None
destination (Some d) = elim (d.rd == 0) [ true ↦ None | false ↦ Some d.rd ]

-- a register with its contents
abbrev pub written_to : Option ℕ → List ℕ → Option (ℕ × ℕ)
written_to None x = None
written_to (Some r) x = Some (r, slice_index x r)

-- what is known of the instruction of hart h at the pc before it is done
abbrev pub fetched : ℕ → Program → HartState → Fetched
fetched h i before = record {
  hart = h;
  ic = before.ic;
  pc = before.pc;
  word = code_at i before.pc;
  rd = destination (instruction_at i before);
}

-- the row of what was looked up, once the instruction is done: by the registers after it and the words of its accesses
abbrev pub done_row : Fetched → (x : List ℕ) → (load store : Option (ℕ × ℕ)) → Row
done_row f x load store = record { hart = f.hart; ic = f.ic; pc = f.pc; word = f.word; reg = written_to f.rd x; load = load; store = store; fault = None }

-- the row of what was looked up, as a system call, by the register that the call wrote
abbrev pub called_row : Fetched → (reg : Option (ℕ × ℕ)) → Row
called_row f reg = record { hart = f.hart; ic = f.ic; pc = f.pc; word = f.word; reg = reg; load = None; store = None; fault = None }

-- the row of what was looked up, if it faults
abbrev pub faulted_row : Fetched → Fault → ℕ → Row
faulted_row f kind value = record { hart = f.hart; ic = f.ic; pc = f.pc; word = f.word; reg = None; load = None; store = None; fault = Some (kind, value) }
