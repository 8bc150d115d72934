use Rattle.slice_back.proofs.Common.{◌≡◌, ◌++◌, drop, flat_map, register_line}
use Rattle.slice_back.proofs.telling.write_registers.Given as goal

abbrev pub invariant-loop-one : goal.invariant-loop-one
invariant-loop-one l = l.text ++ flat_map register_line (drop l.one-index l.regs) ≡ l.fn.text ++ flat_map register_line l.regs
