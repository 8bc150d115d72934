-- A small recording, and a row that no hart could make.
use Rattle.std.specs.Prelude.{ℕ, ◌*◌, false, List, [], ◌∷◌, ◌++◌, replicate, length}
use Rattle.file_laws.specs.Common.{flat_map, number_bytes, Store, TurnRow, Recording, an_exit, program_of, start, start_state, Run, after_rows}
use Rattle.rv_meaning.specs.declared.asks.Reply.TheVariants.{Over}

-- the ELF header of a RISC-V executable that begins at 0x10054, with one program header after it
abbrev pub elf_header : List ℕ
elf_header =
    (0x7f ∷ 0x45 ∷ 0x4c ∷ 0x46 ∷ 1 ∷ 1 ∷ 1 ∷ []) ++ replicate 9 0 ++ number_bytes 2 2 ++ number_bytes 2 243 ++ number_bytes 4 1 ++ number_bytes 4 0x10054
    ++ number_bytes 4 52 ++ number_bytes 4 0 ++ number_bytes 4 0 ++ number_bytes 2 52 ++ number_bytes 2 32 ++ number_bytes 2 1 ++ replicate 6 0

-- the program header of so many bytes of code, which come after it in the file and at 0x10054 in memory
abbrev pub code_header : ℕ → List ℕ
code_header size =
    number_bytes 4 1 ++ number_bytes 4 84 ++ number_bytes 4 0x10054 ++ number_bytes 4 0x10054 ++ number_bytes 4 size ++ number_bytes 4 size ++ number_bytes 4 5 ++ number_bytes 4 4

-- the program file of a recording of code words
abbrev pub file_of_words : Recording → List ℕ
file_of_words e = elf_header ++ code_header (4 * length e.words) ++ flat_map (number_bytes 4) e.words

-- the run before its first turn
abbrev pub an_exit_begun : Run
an_exit_begun = start an_exit.settings (program_of an_exit) an_exit.input

-- before its first instruction the hart asks for a store at address 0, which isn't mapped; so it is answered that all is over
abbrev pub a_stray_store : TurnRow
a_stray_store = record { hart = 0; ask = record { state = start_state an_exit.settings (program_of an_exit) 0; want = Store 0 4 0 }; reply = Over; guarded = false }

-- the run after that row alone
abbrev pub after_a_stray_store : Run
after_a_stray_store = after_rows an_exit.settings (program_of an_exit) an_exit_begun (a_stray_store ∷ [])
