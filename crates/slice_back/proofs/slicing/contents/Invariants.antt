use Rattle.slice_back.proofs.Common.{◌≡◌, ◌++◌, ◌-◌, registers_from, has_register}
use Rattle.slice_back.proofs.slicing.contents.Given as goal

-- those gathered and those from the number on make all
abbrev pub invariant-loop-number : goal.invariant-loop-number
invariant-loop-number l = l.regs.items ++ registers_from l.x (has_register l.set) l.number (32 - l.number) ≡ registers_from l.x (has_register l.set) 0 32
