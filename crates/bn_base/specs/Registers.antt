-- What a write to a register does.
use Rattle.std.specs.Prelude.{ℕ, zero, suc, List, set}

-- the registers after a write of one of them; a write to x0 changes nothing
abbrev pub put_reg : ℕ → ℕ → List ℕ → List ℕ
put_reg zero v x = x
put_reg (suc r) v x = set x (suc r) v
