-- The parts of the line of a row that has no fault.
use Rattle.std.specs.Prelude.{◌≡◌, ◌<◌, ◌≤◌, ◌+◌, ◌-◌, ◌*◌, ◌==◌, ℕ, List, [], ◌++◌, codes, decimal, length, if◌then◌else◌, Option, Some, None}
use Rattle.bn_base.specs.declared.row.Row.{Row}
use Rattle.rv_decode.specs.Table.{decoded}
use Rattle.rv_text.specs.Instructions.{hex8}
use Rattle.rv_text.specs.Names.{register_name}
use Rattle.rv_text.specs.Rows.{word_text, labelled, changes_text}

-- the hart and its count
unfoldable pub count_text : ℕ → ℕ → List ℕ
count_text hart ic = decimal hart ++ codes " " ++ decimal ic

-- a pc and the code there
unfoldable pub place_text : ℕ → ℕ → List ℕ
place_text pc word = codes " " ++ hex8 pc ++ word_text pc word (decoded word)

-- there is no text, or it is that of the hart and the count
abbrev pub NoneOrCount : ℕ → ℕ → List ℕ → Type 0
NoneOrCount hart ic text = 0 < length text → text ≡ count_text hart ic

-- a number is that of its hundreds and of two decimal digits, in ASCII
pub record HasDigits (hundreds number tens ones : ℕ) : Type 0 where
  pub is : number ≡ 100 * hundreds + 10 * (tens - 48) + (ones - 48)
  pub tens_low : 48 ≤ tens
  pub tens_high : tens < 58
  pub ones_low : 48 ≤ ones
  pub ones_high : ones < 58

-- a register's name between ` | ` and `=`; nothing for 32, which is none
unfoldable pub label_text : ℕ → List ℕ
label_text register = if register == 32 then [] else codes " | " ++ register_name register ++ codes "="

-- there is no text, or it is that of the pc, the word and the register
abbrev pub NoneOrText : ℕ → ℕ → ℕ → List ℕ → Type 0
NoneOrText pc word register text = 0 < length text → text ≡ place_text pc word ++ label_text register

-- the new contents of a register, if one was written
abbrev pub contents_text : Option (ℕ × ℕ) → List ℕ
contents_text None = []
contents_text (Some written) = hex8 written.1

-- what a row's instruction loaded and stored
abbrev pub accesses_text : Row → List ℕ
accesses_text r = labelled (codes " | load ") r.load ++ labelled (codes " | store ") r.store

-- the line of a row with this word
unfoldable pub joined_text : Row → ℕ → List ℕ
joined_text r word = count_text r.hart r.ic ++ place_text r.pc word ++ changes_text r.reg r.load r.store ++ codes "\n"
