-- The line of a row.
use Rattle.std.specs.Prelude.{ℕ, Bool, true, false, List, [], ◌++◌, codes, decimal, Option, Some, None}
use Rattle.bn_base.specs.declared.fault.Fault.{Fault}
use Rattle.bn_base.specs.declared.fault.Fault.TheVariants.{Illegal, FetchOutside}
use Rattle.bn_base.specs.declared.row.Row.{Row}
use Rattle.bn_base.specs.Faults.{fault_name}
use Rattle.rv_decode.specs.Table.{Instruction, decoded}
use Rattle.rv_text.specs.Names.{register_name}
use Rattle.rv_text.specs.Instructions.{hex8, instruction_text}

-- the hart, its count and the pc
unfoldable pub point_text : ℕ → ℕ → ℕ → List ℕ
point_text hart ic pc = decimal hart ++ codes " " ++ decimal ic ++ codes " " ++ hex8 pc

-- the fault of a fetch outside of memory
abbrev pub is_fetch_outside : Fault → Bool
is_fetch_outside FetchOutside = true
is_fetch_outside _ = false

-- the fault of a word that is no instruction
abbrev pub is_illegal : Fault → Bool
is_illegal Illegal = true
is_illegal _ = false

-- the word, but none if the fetch faulted
abbrev pub shown_word : Option (Fault × ℕ) → Option ℕ → Option ℕ
shown_word None word = word
shown_word (Some fault) word = elim (is_fetch_outside fault.0) [ true ↦ None | false ↦ word ]

-- the instruction of a word, but none if the word is illegal
abbrev pub shown_instruction : Option (Fault × ℕ) → ℕ → Option Instruction
shown_instruction None word = decoded word
shown_instruction (Some fault) word = elim (is_illegal fault.0) [ true ↦ None | false ↦ decoded word ]

-- the text of an instruction, if there is one
abbrev pub text_or_illegal : ℕ → Option Instruction → List ℕ
text_or_illegal pc None = codes "illegal"
text_or_illegal pc (Some i) = instruction_text pc i

-- a word and its text
unfoldable pub word_text : ℕ → ℕ → Option Instruction → List ℕ
word_text pc word instruction = codes " " ++ hex8 word ++ codes " " ++ text_or_illegal pc instruction

-- the code of a row: WORD and TEXT
abbrev pub code_text : ℕ → Option (Fault × ℕ) → Option ℕ → List ℕ
code_text pc fault None = codes " -------- -"
code_text pc fault (Some word) = word_text pc word (shown_instruction fault word)

-- a register and its new contents
unfoldable pub register_text : Option (ℕ × ℕ) → List ℕ
register_text None = []
register_text (Some written) = codes " | " ++ register_name written.0 ++ codes "=" ++ hex8 written.1

-- an access after its label: its address and the whole word
unfoldable pub labelled : List ℕ → Option (ℕ × ℕ) → List ℕ
labelled label None = []
labelled label (Some access) = label ++ hex8 access.0 ++ codes "=" ++ hex8 access.1

-- what the instruction changed or read
unfoldable pub changes_text : Option (ℕ × ℕ) → Option (ℕ × ℕ) → Option (ℕ × ℕ) → List ℕ
changes_text reg load store = register_text reg ++ labelled (codes " | load ") load ++ labelled (codes " | store ") store

-- a fault and its value
unfoldable pub fault_text : Option (Fault × ℕ) → List ℕ
fault_text None = []
fault_text (Some fault) = codes " | fault " ++ fault_name fault.0 ++ codes " " ++ hex8 fault.1

-- what the instruction changed or read, and its fault
abbrev pub effects_text : Row → List ℕ
effects_text r = changes_text r.reg r.load r.store ++ fault_text r.fault

-- the line of a row
unfoldable pub row_text : Row → List ℕ
row_text r = point_text r.hart r.ic r.pc ++ code_text r.pc r.fault (shown_word r.fault r.word) ++ effects_text r ++ codes "\n"
