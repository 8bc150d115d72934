-- Small logs, written by hand, and their races.
use Rattle.std.specs.Prelude.{ℕ, ◌-◌, ◌*◌, List, [], ◌∷◌, map}
use Rattle.race_report.specs.Common.{Record, Joining, fresh, run_all}
use Rattle.log_record.specs.declared.record.Record.TheVariants.{Header, FirstLoad, ScFailed, Edge}
use Rattle.joint_replay.specs.Examples.{code, end, relay_words}
use Rattle.race_report.specs.declared.race.Race.{Race}
use Rattle.race_report.specs.Points.{points_of}
use Rattle.race_report.specs.Races.{races_of, race_count}

-- the registers of a hart before its first instruction: sp, a0 its number, a1 how many harts there are
abbrev pub first_registers : (harts h : ℕ) → List ℕ
first_registers harts h =
    0 ∷ 0 ∷ (1048576 - 65536 * h) ∷ 0 ∷ 0 ∷ 0 ∷ 0 ∷ 0 ∷ 0 ∷ 0 ∷ h ∷ harts ∷ 0 ∷ 0 ∷ 0 ∷ 0
    ∷ 0 ∷ 0 ∷ 0 ∷ 0 ∷ 0 ∷ 0 ∷ 0 ∷ 0 ∷ 0 ∷ 0 ∷ 0 ∷ 0 ∷ 0 ∷ 0 ∷ 0 ∷ 0 ∷ []

-- the Header of hart h's first interval
abbrev pub first_header : (harts h : ℕ) → Record
first_header harts h = Header h 0 0 0x10054 (first_registers harts h)

-- hart 0 stores a word, hart 1 loads it and stores the next, hart 2 loads the next and then the first
abbrev pub relay : Joining
relay = fresh (code 3 relay_words) 3 (first_header 3 0 ∷ first_header 3 1 ∷ first_header 3 2
    ∷ Edge 1 3 0 4 ∷ FirstLoad 1 0 3 ∷ Edge 2 4 1 4 ∷ FirstLoad 2 0 3 ∷ FirstLoad 2 0 3 ∷ end 0 8 3 0 ∷ end 1 8 3 1 ∷ end 2 8 3 2 ∷ [])

-- lui s0,0x20; then hart 0: sw a1,4(s0); amoadd.w t1,a1,(s0); and hart 1: amoadd.w t1,a1,(s0); lw t0,4(s0); then an exit
abbrev pub message_words : List ℕ
message_words = 0x00020437 ∷ 0x00051a63 ∷ 0x00b42223 ∷ 0x00b4232f ∷ 0x05d00893 ∷ 0x00000073 ∷ 0x00b4232f ∷ 0x00442283 ∷ 0x05d00893 ∷ 0x00000073 ∷ []

-- the joint replay of this program by such records
abbrev pub message : List Record → Joining
message records = fresh (code 2 message_words) 2 (first_header 2 0 ∷ first_header 2 1 ∷ records)

-- hart 1's AMO comes after hart 0's
abbrev pub passed_message : Joining
passed_message = message (FirstLoad 0 0 0 ∷ Edge 1 2 0 3 ∷ FirstLoad 1 0 2 ∷ FirstLoad 1 0 2 ∷ end 0 6 3 0 ∷ end 1 6 3 1 ∷ [])

-- or before it
abbrev pub early_message : Joining
early_message = message (FirstLoad 1 0 0 ∷ Edge 1 3 0 2 ∷ FirstLoad 1 0 2 ∷ Edge 0 3 1 2 ∷ FirstLoad 0 0 2 ∷ end 0 6 3 0 ∷ end 1 6 3 1 ∷ [])

-- hart 1 does this in the place of its AMO
abbrev pub received_by : ℕ → List Record → Joining
received_by word records =
    fresh (code 2 (0x00020437 ∷ 0x00051a63 ∷ 0x00b42223 ∷ 0x00b4232f ∷ 0x05d00893 ∷ 0x00000073 ∷ word ∷ 0x00442283 ∷ 0x05d00893 ∷ 0x00000073 ∷ [])) 2
    (first_header 2 0 ∷ first_header 2 1 ∷ records)

-- lr.w t1,(s0), after hart 0's AMO
abbrev pub reserved_message : Joining
reserved_message = received_by 0x1004232f (FirstLoad 0 0 0 ∷ Edge 1 2 0 3 ∷ FirstLoad 1 0 2 ∷ FirstLoad 1 0 2 ∷ end 0 6 3 0 ∷ end 1 6 3 1 ∷ [])

-- sc.w t1,a1,(s0), which fails
abbrev pub missed_message : Joining
missed_message = received_by 0x18b4232f (FirstLoad 0 0 0 ∷ ScFailed 1 ∷ Edge 1 3 0 2 ∷ FirstLoad 1 0 2 ∷ end 0 6 3 0 ∷ end 1 6 3 1 ∷ [])

-- ---- what is shown of them

-- the hart and the count of both rows, and the word
abbrev pub named : Race → ℕ × ℕ × ℕ × ℕ × ℕ
named r = (r.first.hart, r.first.ic, r.second.hart, r.second.ic, r.word)

-- the races of a joint replay, by hart and count of both
abbrev pub races_in : ℕ → Joining → List (ℕ × ℕ × ℕ × ℕ × ℕ)
races_in harts j = map named (races_of harts (points_of (run_all j).walk.taken))

-- how many races a joint replay has
abbrev pub count_in : Joining → ℕ
count_in j = race_count (points_of (run_all j).walk.taken)
