-- The operands of an instruction in two parts.
use Rattle.std.proofs.Common.{◌≡◌, ℕ, ◌++◌, refl}
use Rattle.rv_decode.specs.declared.format.Format.{Format}
use Rattle.rv_decode.specs.declared.format.Format.TheVariants.{U, J, I, B, S, Shift, R, Bare, Atomic}
use Rattle.rv_decode.specs.Table.{Instruction}
use Rattle.rv_text.specs.Instructions.{leading_operands, last_operands, operands}

-- the leading ones and what follows them are all
pub operands_in_two : (format : Format) (pc : ℕ) (i : Instruction) → leading_operands format i ++ last_operands format pc i ≡ operands format pc i
operands_in_two U pc i = refl
operands_in_two J pc i = refl
operands_in_two I pc i = refl
operands_in_two B pc i = refl
operands_in_two S pc i = refl
operands_in_two Shift pc i = refl
operands_in_two R pc i = refl
operands_in_two Bare pc i = refl
operands_in_two Atomic pc i = refl
