-- A small program, and what its system calls find.
use Rattle.std.specs.Prelude.{ℕ, true, false, [], ◌∷◌}
use Rattle.bn_base.specs.Programs.{Program}
use Rattle.system_calls.specs.declared.kernel.Kernel.{Kernel}

-- one word of code at 65,620 that can't be stored to; the other words of a memory of 2 ^ 20 bytes can
abbrev pub a_program : Program
a_program = record { parts = record { first = 65620; words = 115 ∷ []; count = 1; executable = true; writable = false } ∷ []; entry = 65620; memory = 1048576; harts = 1 }

-- the state before a call: the heap is empty, so many bytes are left of the input, and so many are in each stream
abbrev pub kernel : ℕ → ℕ → Kernel
kernel left len = record { brk = 69632; input_left = left; out_len = len; err_len = len }
