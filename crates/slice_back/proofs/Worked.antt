-- Slices of small logs.
use Rattle.slice_back.proofs.Common.{◌≡◌, ℕ, [], ◌∷◌, Option, Some, None, refl, ap, Err, fault_name, NoRow, registers_from, head_text, register_line, word_line, branch_line, AllAlike, WordsAgree}
use Rattle.std.specs.Fmt.{digits}
use Rattle.hex.specs.Hex.{encode_with}
use Rattle.rv_text.specs.Names.{register_name, mnemonic, ordering}
use Rattle.rv_text.specs.Instructions.{hex8, first_operand, register_operand, number_operand, offset_operand, memory_operand, target_operand, upper_operand, instruction_text}
use Rattle.rv_text.specs.Rows.{point_text, word_text, register_text, labelled, changes_text, fault_text, row_text}
use Rattle.slice_back.specs.Examples.{shown, text_of, byte_store, byte_store_text, fault, word_store, byte_over_word, load_after_store, loaded_twice, branch_before, call, apart_rows, apart_slice, apart_loads}
use Rattle.slice_back.specs.Examples as examples

pub byte_store_is : text_of 0 2 byte_store ≡ byte_store_text
unfolding digits encode_with register_name mnemonic ordering hex8 first_operand register_operand number_operand offset_operand memory_operand target_operand upper_operand instruction_text point_text word_text register_text labelled changes_text fault_text row_text head_text register_line word_line branch_line registers_from
byte_store_is = refl

pub fault_is : text_of 0 0 (fault 0) ≡ examples.fault_text
unfolding digits fault_name encode_with register_name mnemonic ordering hex8 first_operand register_operand number_operand offset_operand memory_operand target_operand upper_operand instruction_text point_text word_text register_text labelled changes_text fault_text row_text head_text register_line word_line branch_line registers_from
fault_is = refl

pub no_row_is : fault 1 ≡ Err (NoRow 1)
no_row_is = refl

pub word_store_is : shown word_store ≡ Some (0 ∷ 1 ∷ 2 ∷ [], (11, 1) ∷ [], [], [])
unfolding registers_from
word_store_is = refl

pub byte_over_word_is : shown byte_over_word ≡ Some (0 ∷ 1 ∷ 2 ∷ 3 ∷ [], (11, 1) ∷ [], [], [])
unfolding registers_from
byte_over_word_is = refl

pub load_after_store_is : shown load_after_store ≡ Some (0 ∷ 3 ∷ [], [], (3, 0x20000, 7) ∷ [], [])
unfolding registers_from
load_after_store_is = refl

pub loaded_twice_is : shown loaded_twice ≡ Some (0 ∷ 2 ∷ [], [], (1, 0x20000, 5) ∷ [], [])
unfolding registers_from
loaded_twice_is = refl

pub branch_before_is : shown branch_before ≡ Some (0 ∷ 3 ∷ 4 ∷ [], (11, 1) ∷ [], [], 2 ∷ [])
unfolding registers_from
branch_before_is = refl

pub call_is : shown call ≡ Some (0 ∷ 1 ∷ 2 ∷ [], (11, 1) ∷ (12, 0) ∷ [], [], [])
unfolding registers_from
call_is = refl

pub apart_alike : AllAlike (apart_rows 5) (apart_rows 6)
apart_alike =
    (record { pc = refl; word = refl; store = refl; took = refl }, (record { pc = refl; word = refl; store = refl; took = refl }, (record { pc = refl; word = refl; store = refl; took = refl }, tt)))

abbrev value_of : Option (ℕ × ℕ) → Option ℕ
value_of None = None
value_of (Some x) = Some x.1

pub apart_agree : WordsAgree (apart_rows 5) (apart_rows 6)
unfolding registers_from
apart_agree = (λ a v e. cc, (λ a v e. cc, (λ a v e. ap value_of e, tt)))

pub apart_same : apart_slice 5 ≡ apart_slice 6
unfolding registers_from
apart_same = refl

pub apart_one : apart_loads 5 ≡ None ∷ Some 5 ∷ Some 7 ∷ []
apart_one = refl

pub apart_other : apart_loads 6 ≡ None ∷ Some 6 ∷ Some 7 ∷ []
apart_other = refl
