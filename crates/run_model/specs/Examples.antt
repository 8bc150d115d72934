-- Small recordings whose streams are worked out by hand.
use Rattle.std.specs.Prelude.{ℕ, ◌≡◌, true, false, List, [], ◌∷◌, length, filter, map, Bool, Some, None}
use Rattle.run_model.specs.Common.{Program, Part, default_settings, RawSettings, Row, Record, Header, FirstLoad, Edge, End, Point, access_point, Write}
use Rattle.bn_base.specs.declared.fault.Fault.TheVariants.{LoadOutside}
use Rattle.run_model.specs.Turn.{Run, turn, header, mark}
use Rattle.run_model.specs.Runs.{start, start_state, run_of, legal_from, has_finished}
use Rattle.run_model.specs.Rows.{rows_of, rows_in}
use Rattle.run_model.specs.KeptRecords.{kept_of}

-- what is recorded: the code words, which begin at address 0x10054, the settings, the input, and the list of turns
pub record Recording : Type 0 where
  pub words : List ℕ
  pub settings : RawSettings
  pub input : List ℕ
  pub turns : List ℕ

-- one read-only segment of code
abbrev pub code_part : List ℕ → Part
code_part words = record { first = 0x10054; words = words; count = length words; executable = true; writable = false }

-- its code alone, which begins at 0x10054
abbrev pub program_of : Recording → Program
program_of e = record { parts = code_part e.words ∷ []; entry = 0x10054; memory = e.settings.memory; harts = e.settings.harts }

-- the run of its turns
abbrev pub recorded : Recording → Run
recorded e = run_of e.settings (program_of e) e.input e.turns

-- the Header of hart k's interval 0
abbrev pub first_header : Recording → ℕ → Record
first_header e k = header k 0 (start_state e.settings (program_of e) k)

-- the End of an interval of hart k
abbrev pub end : ℕ → ℕ → ℕ → ℕ → Record
end k ic reason value = End k (mark ic reason value)

-- the rows of hart k
abbrev pub rows : Recording → ℕ → List Row
rows e k = rows_of e.settings (program_of e) (start e.settings (program_of e) e.input) e.turns k

-- the list is legal, and finished
abbrev pub is_whole : Recording → Type 0
is_whole e = (legal_from e.settings (program_of e) (start e.settings (program_of e) e.input) e.turns ≡ true) × (has_finished e.settings (recorded e) ≡ true)

-- ---- one hart

-- addi a0,zero,5; addi a7,zero,93; ecall
abbrev pub an_exit : Recording
an_exit = record { words = 0x00500513 ∷ 0x05d00893 ∷ 0x00000073 ∷ []; settings = default_settings; input = []; turns = 0 ∷ [] }

-- lui s0,0x20; lw t0,0(s0); lw t1,0(s0); then an exit
abbrev pub two_loads_of_a_word : Recording
two_loads_of_a_word = record { words = 0x00020437 ∷ 0x00042283 ∷ 0x00042303 ∷ 0x05d00893 ∷ 0x00000073 ∷ []; settings = default_settings; input = []; turns = 0 ∷ 0 ∷ 0 ∷ [] }

-- lui s0,0x20; lw t0,0(s0); lw t1,0(s0); lw t0,4(s0); then an exit
abbrev pub a_skipped_load : Recording
a_skipped_load = record { words = 0x00020437 ∷ 0x00042283 ∷ 0x00042303 ∷ 0x00442283 ∷ 0x05d00893 ∷ 0x00000073 ∷ []; settings = default_settings; input = []; turns = 0 ∷ 0 ∷ 0 ∷ 0 ∷ [] }

-- lui s0,0x20; sb a1,0(s0); lw t0,0(s0); then an exit
abbrev pub a_byte_store : Recording
a_byte_store = record { words = 0x00020437 ∷ 0x00b40023 ∷ 0x00042283 ∷ 0x05d00893 ∷ 0x00000073 ∷ []; settings = default_settings; input = []; turns = 0 ∷ 0 ∷ 0 ∷ [] }

-- lui s0,0x20; lw t0,0(s0); lw t0,4(s0); lw t0,0(s0); then an exit, with a cache of one line of one word
abbrev pub a_line_put_out : Recording
a_line_put_out = record {
  words = 0x00020437 ∷ 0x00042283 ∷ 0x00442283 ∷ 0x00042283 ∷ 0x05d00893 ∷ 0x00000073 ∷ [];
  settings = record default_settings { sets = 1; ways = 1; line = 1 };
  input = [];
  turns = 0 ∷ 0 ∷ 0 ∷ 0 ∷ [];
}

-- lui s0,0x20; lr.w t0,(s0); sc.w t1,a1,(s0); then an exit
abbrev pub a_conditional_store : Recording
a_conditional_store = record { words = 0x00020437 ∷ 0x100422af ∷ 0x18b4232f ∷ 0x05d00893 ∷ 0x00000073 ∷ []; settings = default_settings; input = []; turns = 0 ∷ 0 ∷ 0 ∷ [] }

-- an exit, with intervals of one instruction
abbrev pub one_a_time : Recording
one_a_time = record { words = 0x00500513 ∷ 0x05d00893 ∷ 0x00000073 ∷ []; settings = record default_settings { interval = 1 }; input = []; turns = 0 ∷ 0 ∷ 0 ∷ [] }

-- addi a7,zero,214; addi a0,zero,0; ecall; then an exit, with intervals of three instructions
abbrev pub a_call_at_full_length : Recording
a_call_at_full_length = record { words = 0x0d600893 ∷ 0x00000513 ∷ 0x00000073 ∷ 0x05d00893 ∷ 0x00000073 ∷ []; settings = record default_settings { interval = 3 }; input = []; turns = 0 ∷ 0 ∷ [] }

-- lw t0,0(zero)
abbrev pub a_fault : Recording
a_fault = record { words = 0x00002283 ∷ []; settings = default_settings; input = []; turns = 0 ∷ [] }

-- jal zero to itself, up to a limit of ten instructions, with intervals of four
abbrev pub a_limit : Recording
a_limit = record { words = 0x0000006f ∷ []; settings = record default_settings { interval = 4; limit = 10 }; input = []; turns = 0 ∷ 0 ∷ 0 ∷ [] }

-- ---- several harts

-- hart 0 loads a word twice; hart 1 stores the next word, of the same line, in between
abbrev pub a_line_lost : Recording
a_line_lost = record {
  words = 0x00020437 ∷ 0x00051a63 ∷ 0x00042283 ∷ 0x00042303 ∷ 0x05d00893 ∷ 0x00000073 ∷ 0x00b42223 ∷ 0x05d00893 ∷ 0x00000073 ∷ [];
  settings = record default_settings { harts = 2; line = 4 };
  input = [];
  turns = 0 ∷ 1 ∷ 0 ∷ 0 ∷ 1 ∷ [];
}

-- hart 0 reserves a word and stores it conditionally; hart 1 stores it in between
abbrev pub a_reservation_lost : Recording
a_reservation_lost = record {
  words = 0x00020437 ∷ 0x00051a63 ∷ 0x100422af ∷ 0x18b4232f ∷ 0x05d00893 ∷ 0x00000073 ∷ 0x00b42023 ∷ 0x05d00893 ∷ 0x00000073 ∷ [];
  settings = record default_settings { harts = 2 };
  input = [];
  turns = 0 ∷ 1 ∷ 0 ∷ 0 ∷ 1 ∷ [];
}

-- hart 0 loads a word twice; hart 1's read call fills it with `wxyz` in between
abbrev pub a_filled_word : Recording
a_filled_word = record {
  words = 0x00020437 ∷ 0x00051a63 ∷ 0x00042283 ∷ 0x00042303 ∷ 0x05d00893 ∷ 0x00000073 ∷ 0x00000513 ∷ 0x00040593 ∷ 0x00400613 ∷ 0x03f00893 ∷ 0x00000073 ∷ 0x05d00893 ∷ 0x00000073 ∷ [];
  settings = record default_settings { harts = 2 };
  input = 119 ∷ 120 ∷ 121 ∷ 122 ∷ [];
  turns = 0 ∷ 1 ∷ 0 ∷ 0 ∷ 1 ∷ [];
}

-- the Header of hart 1's interval after the call: its registers hold the call's arguments and result
abbrev pub header_after_the_call : Record
header_after_the_call = header 1 1 (record {
  pc = 0x10080;
  x = 0 ∷ 0 ∷ 983040 ∷ 0 ∷ 0 ∷ 0 ∷ 0 ∷ 0 ∷ 0x20000 ∷ 0 ∷ 4 ∷ 0x20000 ∷ 4 ∷ 0 ∷ 0 ∷ 0 ∷ 0 ∷ 63 ∷ 0 ∷ 0 ∷ 0 ∷ 0 ∷ 0 ∷ 0 ∷ 0 ∷ 0 ∷ 0 ∷ 0 ∷ 0 ∷ 0 ∷ 0 ∷ 0 ∷ [];
  ic = 7;
})

-- hart 0 stores a word, hart 1 loads it and stores the next, hart 2 loads the next and then the first
abbrev pub relay_words : List ℕ
relay_words = 0x00020437 ∷ 0x00100393 ∷ 0x00750863 ∷ 0x00051c63 ∷ 0x00b42023 ∷ 0x0180006f ∷ 0x00042283 ∷ 0x00b42223 ∷ 0x00c0006f ∷ 0x00442283 ∷ 0x00042303 ∷ 0x05d00893 ∷ 0x00000073 ∷ []

-- three harts and their turns
abbrev pub a_relay : Recording
a_relay = record { words = relay_words; settings = record default_settings { harts = 3 }; input = []; turns = 0 ∷ 1 ∷ 1 ∷ 2 ∷ 2 ∷ 0 ∷ 1 ∷ 2 ∷ [] }

-- ---- what is shown of them

-- whether a record is an End
abbrev pub is_end : Record → Bool
is_end (End k mark) = true
is_end r = false

-- the Ends of a stream
abbrev pub marks : List Record → List Record
marks rs = filter is_end rs

-- the rows of the exit
abbrev pub rows_of_an_exit : List Row
rows_of_an_exit =
    record { hart = 0; ic = 0; pc = 0x10054; word = Some 0x00500513; reg = Some (10, 5); load = None; store = None; fault = None }
    ∷ record { hart = 0; ic = 1; pc = 0x10058; word = Some 0x05d00893; reg = Some (17, 93); load = None; store = None; fault = None }
    ∷ record { hart = 0; ic = 2; pc = 0x1005c; word = Some 0x00000073; reg = None; load = None; store = None; fault = None } ∷ []

-- the records of the word that a call fills
abbrev pub records_of_a_filled_word : List Record
records_of_a_filled_word =
    first_header a_filled_word 0 ∷ first_header a_filled_word 1 ∷ FirstLoad 0 0 0 ∷ Edge 1 6 0 2 ∷ end 1 7 2 4 ∷ header_after_the_call
    ∷ Edge 0 3 1 6 ∷ FirstLoad 0 0 2054781047 ∷ end 0 6 3 0 ∷ end 1 9 3 4 ∷ []

-- the records of the relay
abbrev pub records_of_a_relay : List Record
records_of_a_relay =
    first_header a_relay 0 ∷ first_header a_relay 1 ∷ first_header a_relay 2 ∷ Edge 1 3 0 4 ∷ FirstLoad 1 0 3
    ∷ Edge 2 4 1 4 ∷ FirstLoad 2 0 3 ∷ FirstLoad 2 0 3 ∷ end 0 8 3 0 ∷ end 1 8 3 1
    ∷ end 2 8 3 2 ∷ []

-- the row of the load which faults
abbrev pub row_of_a_fault : Row
row_of_a_fault = record { hart = 0; ic = 0; pc = 0x10054; word = Some 0x00002283; reg = None; load = None; store = None; fault = Some (LoadOutside, 0) }

-- ---- with format 2

-- the number and first count of each Header of a hart, and the marks of its Ends, in their order
pub data Mark : Type 0 where
  Begins : (hart number ic : ℕ) → Mark
  Ends : (hart ic reason value : ℕ) → Mark

-- the marks of a stream
abbrev pub marked : List Record → List Mark
marked [] = []
marked (Header k n ic pc x ∷ rs) = Begins k n ic ∷ marked rs
marked (End k mark ∷ rs) = Ends k mark.ic mark.reason mark.value ∷ marked rs
marked (r ∷ rs) = marked rs

-- lui s0,0x20; then again and again lw t0,0(s0); addi s0,s0,4, so that each load is logged. After three loads, more than
-- half of 340 bytes follow the Header
abbrev pub a_guarded_load : Recording
a_guarded_load = record { words = 0x00020437 ∷ 0x00042283 ∷ 0x00440413 ∷ 0xff9ff06f ∷ []; settings = record default_settings { format = 2; log_size = 340; limit = 12 }; input = []; turns = 0 ∷ 0 ∷ 0 ∷ 0 ∷ 0 ∷ [] }

-- the recording of the guarded load, with format 1
abbrev pub an_unguarded_load : Recording
an_unguarded_load = record a_guarded_load { settings = record a_guarded_load.settings { format = 1 } }

-- hart 0 loads word after word; then hart 1, which began long ago, faults
abbrev pub a_late_fault : Recording
a_late_fault = record {
  words = 0x00020437 ∷ 0x00051863 ∷ 0x00042283 ∷ 0x00440413 ∷ 0xff9ff06f ∷ 0x00002283 ∷ [];
  settings = record default_settings { format = 2; harts = 2; log_size = 600 };
  input = [];
  turns = 0 ∷ 0 ∷ 0 ∷ 0 ∷ 0 ∷ 0 ∷ 0 ∷ 0 ∷ 0 ∷ 0 ∷ 0 ∷ 1 ∷ [];
}

-- with format 1, in a log that is smaller by one Header
abbrev pub a_late_fault_unguarded : Recording
a_late_fault_unguarded = record a_late_fault { settings = record a_late_fault.settings { format = 1; log_size = 280 } }

-- lui s0,0x20; lw t0,0(s0); then an exit, with intervals of one instruction, and a log in which a Header has more than half
-- of the bytes: each ask ends two intervals
abbrev pub two_ends_a_turn : Recording
two_ends_a_turn = record { words = 0x00020437 ∷ 0x00042283 ∷ 0x05d00893 ∷ 0x00000073 ∷ []; settings = record default_settings { format = 2; interval = 1; log_size = 200 }; input = []; turns = 0 ∷ 0 ∷ 0 ∷ 0 ∷ [] }

-- the marks of that recording: each turn ends the interval before its ask, by the guard, and the ask's own
abbrev pub marks_of_two_ends_a_turn : List Mark
marks_of_two_ends_a_turn =
    Begins 0 0 0 ∷ Ends 0 1 1 0 ∷ Begins 0 1 1 ∷ Ends 0 1 6 0 ∷ Begins 0 2 1 ∷ Ends 0 2 1 0
    ∷ Begins 0 3 2 ∷ Ends 0 3 1 0 ∷ Begins 0 4 3 ∷ Ends 0 3 6 0 ∷ Begins 0 5 3 ∷ Ends 0 4 3 0
    ∷ []

-- each ask is guarded: hart 0's first instruction, before which hart 1 did one, faults; sp isn't mapped there
abbrev pub a_guarded_first_fault : Recording
a_guarded_first_fault = record { words = 0x00012283 ∷ 0x0000006f ∷ []; settings = record default_settings { format = 2; harts = 2; limit = 3; log_size = 300 }; input = []; turns = 1 ∷ 0 ∷ [] }

-- what the log keeps of a recording
abbrev pub kept_records : Recording → List Record
kept_records e = kept_of e.settings (recorded e)

-- the rows of hart k in its interval n, by their counts
abbrev pub counts_in : Recording → (k n : ℕ) → List ℕ
counts_in e k n = map (λ (r : Row). r.ic) (rows_in e.settings (program_of e) (start e.settings (program_of e) e.input) e.turns k n)

-- a run in which hart 1 has written the word that hart 0 loads next, and one that differs in that alone
abbrev pub before_a_load : List Point → Run
before_a_load points = record (run_of a_line_lost.settings (program_of a_line_lost) [] []) { points = points }

-- the write of the word at 0x20000 by instruction 0 of hart 1
abbrev pub a_write_by_hart_1 : List Point
a_write_by_hart_1 = access_point 1 0 0 0x20000 1 Write ∷ []

-- how many bytes the stream has after hart 0's load
abbrev pub bytes_after_the_load : List Point → ℕ
bytes_after_the_load points = (turn a_line_lost.settings (program_of a_line_lost) (before_a_load points) 0).bytes
