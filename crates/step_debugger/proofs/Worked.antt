-- Small examples.
use Rattle.step_debugger.proofs.Common.{◌≡◌, ◌+◌, ◌^◌, ℕ, List, [], ◌∷◌, ◌++◌, Some, None, length, replicate, codes, refl, ap, arith, LineTooLong, TooMuch, ends_in, with_line, point_text, hart_text, waits_text, stop_text, at_text, address_text, word_text, register_text, two_text, four_text, half_text, place_text, hart_done_text}
use Rattle.std.specs.Fmt.{digits}
use Rattle.hex.specs.Hex.{encode_with}
use Rattle.bn_base.specs.EndMarks.{reason_word}
use Rattle.rv_text.specs.Names.{register_name, mnemonic, ordering}
use Rattle.rv_text.specs.Instructions.{hex8, first_operand, register_operand, number_operand, offset_operand, memory_operand, target_operand, upper_operand, instruction_text}
use Rattle.rv_text.specs.Rows as rows
use Rattle.rv_text.specs.Marks.{mark_text, end_text}
use Rattle.joint_replay.specs.Texts.{pass_text}
use Rattle.step_debugger.specs.declared.command.DebugCommand.TheVariants.{Other}
use Rattle.step_debugger.specs.Examples.{commands_of, command_lines, their_commands, other_lines, refusal_of, long_line, last_bytes, leaving_session, leaving_told, returning_session, returning_told, starting_session, starting_told, breaking_session, breaking_told, relay_session, relay_told, crossed_session, crossed_told, IsInTurn, prompt_reads, late_reads, early_reads}

pub commands_read : commands_of command_lines ≡ their_commands
commands_read = refl

pub others_read : commands_of other_lines ≡ replicate (length other_lines) Other
others_read = refl

pub full_line_is : refusal_of (long_line 256 ++ 10 ∷ []) ≡ None
full_line_is = refl

pub long_line_is : refusal_of (long_line 257) ≡ Some (LineTooLong 257)
long_line_is = refl

pub last_byte_is : last_bytes (10 ∷ []) ≡ with_line [] (ends_in [] None)
last_byte_is = refl

pub one_too_many_is : last_bytes (10 ∷ 10 ∷ []) ≡ with_line [] (ends_in [] (Some (TooMuch (2 ^ 24 + 1))))
one_too_many_is = refl

pub leaving_is : leaving_session ≡ leaving_told
unfolding digits encode_with reason_word register_name mnemonic ordering hex8 first_operand register_operand number_operand offset_operand memory_operand target_operand upper_operand instruction_text rows.point_text rows.word_text rows.register_text rows.labelled rows.changes_text rows.fault_text rows.row_text mark_text end_text pass_text point_text hart_text waits_text stop_text address_text word_text register_text two_text four_text half_text place_text hart_done_text
leaving_is = refl

pub returning_is : returning_session ≡ returning_told
unfolding digits encode_with reason_word register_name mnemonic ordering hex8 first_operand register_operand number_operand offset_operand memory_operand target_operand upper_operand instruction_text rows.point_text rows.word_text rows.register_text rows.labelled rows.changes_text rows.fault_text rows.row_text mark_text end_text pass_text point_text hart_text waits_text stop_text at_text address_text word_text register_text two_text four_text half_text place_text hart_done_text
returning_is = refl

pub starting_is : starting_session ≡ starting_told
unfolding digits encode_with reason_word register_name mnemonic ordering hex8 first_operand register_operand number_operand offset_operand memory_operand target_operand upper_operand instruction_text rows.point_text rows.word_text rows.register_text rows.labelled rows.changes_text rows.fault_text rows.row_text mark_text end_text pass_text point_text hart_text waits_text stop_text at_text address_text word_text register_text two_text four_text half_text place_text hart_done_text
starting_is = refl

pub breaking_is : breaking_session ≡ breaking_told
unfolding digits encode_with reason_word register_name mnemonic ordering hex8 first_operand register_operand number_operand offset_operand memory_operand target_operand upper_operand instruction_text rows.point_text rows.word_text rows.register_text rows.labelled rows.changes_text rows.fault_text rows.row_text mark_text end_text pass_text point_text hart_text waits_text stop_text address_text word_text register_text two_text four_text half_text place_text hart_done_text
breaking_is = refl

pub relay_is : relay_session ≡ relay_told
unfolding digits encode_with reason_word register_name mnemonic ordering hex8 first_operand register_operand number_operand offset_operand memory_operand target_operand upper_operand instruction_text rows.point_text rows.word_text rows.register_text rows.labelled rows.changes_text rows.fault_text rows.row_text mark_text end_text pass_text point_text hart_text waits_text stop_text address_text word_text register_text two_text four_text half_text place_text hart_done_text
relay_is = refl

pub crossed_is : crossed_session ≡ crossed_told
unfolding digits encode_with reason_word register_name mnemonic ordering hex8 first_operand register_operand number_operand offset_operand memory_operand target_operand upper_operand instruction_text rows.point_text rows.word_text rows.register_text rows.labelled rows.changes_text rows.fault_text rows.row_text mark_text end_text pass_text point_text hart_text waits_text stop_text address_text word_text register_text two_text four_text half_text place_text hart_done_text
crossed_is = refl

pub prompt_is : IsInTurn prompt_reads
prompt_is = (refl, (refl, (refl, (refl, (refl, (refl, refl))))))

pub late_is : IsInTurn late_reads → ⊥
late_is h = let e : codes "x" ≡ codes "x?\n" = h.1.1.1.1.1.0 in let n : 1 ≡ 3 = ap (λ (l : List ℕ). length l) e in absurd (omega (arith, n))

pub early_is : IsInTurn early_reads → ⊥
early_is h = let e : codes "x?\n" ≡ codes "x" = h.1.1.1.1.0 in let n : 3 ≡ 1 = ap (λ (l : List ℕ). length l) e in absurd (omega (arith, n))
