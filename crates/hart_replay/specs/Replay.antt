-- What the replay of one interval gives.
use Rattle.std.specs.Prelude.{ℕ, zero, suc, ◌+◌, ◌-◌, ◌==◌, nat_lt, Bool, true, false, cond, not, ◌&&◌, ◌||◌, List, [], ◌∷◌, length, slice_index, Option, Some, None}
use Rattle.bn_base.specs.Faults.{fault_number}
use Rattle.hart_replay.specs.Common.{Program, EndMark, Row, HartState, Quiet, Asks, step, absorbed, aligned, Want, Load, Store, LoadReserved, StoreConditional, Amo, System, Cut, Faulted, Reply, Word, Stored, Answer, Over, row_of, call_row, fault_row, known, Record}
use Rattle.rv_meaning.specs.Access.{stored_word, amo_result}
use Rattle.rv_meaning.specs.declared.asks.Ask.{Ask}
use Rattle.rv_meaning.specs.declared.asks.Reply.TheVariants as replies
use Rattle.log_record.specs.declared.record.Record.TheVariants.{Header, FirstLoad, ScOk, ScFailed, Edge, End}
use Rattle.hart_replay.specs.declared.error.ReplayError.{ReplayError}
use Rattle.hart_replay.specs.declared.error.ReplayError.TheVariants.{NoInterval, LoadMissing, ScMissing, RecordsLeft, EndDiffers}

-- how a replay ends
pub data Outcome : Type 0 where
  Done : Outcome
  Refused : ReplayError → Outcome

-- the rows of a replay, oldest first, and how it ends
pub record Replayed : Type 0 where
  pub rows : List Row
  pub outcome : Outcome

-- ---- what the log has for one interval

-- the hart's state at its start, its first loads (skip, value) and store-conditionals (whether each succeeded) in their
-- order, and the mark of its end
pub record Interval : Type 0 where
  pub start : HartState
  pub loads : List (ℕ × ℕ)
  pub conditionals : List Bool
  pub mark : EndMark

-- what the records of a hart up to its End say
pub record Logged : Type 0 where
  pub loads : List (ℕ × ℕ)
  pub conditionals : List Bool
  pub mark : EndMark

-- a record of hart h, or of another, before those that say l
abbrev pub put : ℕ → Record → Logged → Logged
put h (Header k n ic pc x) l = l
put h (FirstLoad k skip value) l = elim (k == h) [ true ↦ record { loads = (skip, value) ∷ l.loads; conditionals = l.conditionals; mark = l.mark } | false ↦ l ]
put h (ScOk k) l = elim (k == h) [ true ↦ record { loads = l.loads; conditionals = true ∷ l.conditionals; mark = l.mark } | false ↦ l ]
put h (ScFailed k) l = elim (k == h) [ true ↦ record { loads = l.loads; conditionals = false ∷ l.conditionals; mark = l.mark } | false ↦ l ]
put h (Edge k ic s j) l = l
put h (End k m) l = elim (k == h) [ true ↦ record { loads = []; conditionals = []; mark = m } | false ↦ l ]

-- what records have for hart h up to its next End: they are put in from the last to the first, and an End clears what came before
abbrev pub puts : ℕ → List Record → Logged → Logged
puts h [] l = l
puts h (r ∷ rs) l = put h r (puts h rs l)

-- what the log has if no record is left
abbrev pub nothing : Logged
nothing = record { loads = []; conditionals = []; mark = record { ic = 0; reason = 0; value = 0 } }

-- the interval that begins in a state, with what the log has for it
abbrev pub interval_from : HartState → Logged → Interval
interval_from s l = record { start = s; loads = l.loads; conditionals = l.conditionals; mark = l.mark }

-- interval c of hart h: from its Header to the hart's next End
abbrev pub interval_of : ℕ → ℕ → List Record → Option Interval
interval_of h c [] = None
interval_of h c (Header k n ic pc x ∷ rs) = elim (k == h && (n == c)) [ true ↦ Some (interval_from (record { pc = pc; x = x; ic = ic }) (puts h rs nothing)) | false ↦ interval_of h c rs ]
interval_of h c (r ∷ rs) = interval_of h c rs

-- the value of the first load whose place is k, if the place after the one before is base. A first load's place is
-- the number of loading accesses of the interval before it
abbrev pub logged_from : ℕ → List (ℕ × ℕ) → ℕ → Option ℕ
logged_from base [] k = None
logged_from base (r ∷ rs) k = elim (k == base + r.0) [ true ↦ Some r.1 | false ↦ logged_from (base + r.0 + 1) rs k ]

-- the value that the log has for loading access number k of the interval, from 0, if it has one. First load number n, from 0,
-- is at the sum of the skips up to its own, plus n
abbrev pub logged : List (ℕ × ℕ) → ℕ → Option ℕ
logged rs k = logged_from 0 rs k

-- how many first loads have a place below k
abbrev pub taken_from : ℕ → List (ℕ × ℕ) → ℕ → ℕ
taken_from base [] k = 0
taken_from base (r ∷ rs) k = elim (nat_lt (base + r.0) k) [ true ↦ 1 + taken_from (base + r.0 + 1) rs k | false ↦ 0 ]

-- the first value if it is there, else the second
abbrev pub or_else : Option ℕ → Option ℕ → Option ℕ
or_else None y = y
or_else (Some x) y = Some x

-- ---- the instructions, one by one

-- the state of a replay: the hart's state, how many loading accesses and store-conditionals it did, its rows, latest first,
-- and whether its last instruction was the system call that ends the interval
pub record Position : Type 0 where
  pub state : HartState
  pub loads : ℕ
  pub conditionals : ℕ
  pub rows : List Row
  pub called : Bool

-- what an instruction of a replay leads to: a position, or the end of the replay
pub data Next : Type 0 where
  On : Position → Next
  Stop : Outcome → Next

-- whether store-conditional number k, from 0, succeeded
abbrev pub slot : List Bool → ℕ → Option Bool
slot [] k = None
slot (b ∷ bs) zero = Some b
slot (b ∷ bs) (suc k) = slot bs k

-- the mark that a replay would give its End
abbrev pub found : ℕ → ℕ → ℕ → EndMark
found ic reason value = record { ic = ic; reason = reason; value = value }

-- an ask has its reply and is no store-conditional; it did so many loading accesses, and its row has these words
abbrev pub after_ask : Program → ℕ → Position → Ask → Reply → ℕ → Option (ℕ × ℕ) → Option (ℕ × ℕ) → Next
after_ask i h p ask reply more load store = let t = absorbed ask reply in On (record { state = t; loads = p.loads + more; conditionals = p.conditionals; rows = row_of h i p.state t load store ∷ p.rows; called = false })

-- the word for a loading access at a: the log's, if it has a first load of this place, else the one that the rows know
abbrev pub word_for : Interval → Position → ℕ → Option ℕ
word_for v p a = or_else (logged v.loads p.loads) (known (aligned a) p.rows)

-- a loading access of a word that neither the log nor the replay's rows tell
abbrev pub missing : ℕ → Position → ℕ → Next
missing h p a = Stop (Refused (LoadMissing h p.state.ic a))

-- a store-conditional goes as the log says: it stores and writes 0 to rd, or it writes 1
abbrev pub after_sc : Program → ℕ → Position → Ask → Bool → ℕ → ℕ → Next
after_sc i h p ask good a value =
    let t = absorbed ask (cond good replies.ScOk replies.ScFailed) in
    let row = row_of h i p.state t None (cond good (Some (a, value)) None) in
    On (record { state = t; loads = p.loads; conditionals = p.conditionals + 1; rows = row ∷ p.rows; called = false })

-- the reason of an end by the system call with this number: 93 is exit, 94 is exit_group, any other continues
abbrev pub call_reason : ℕ → ℕ
call_reason n = elim (n == 93) [ true ↦ 3 | false ↦ elim (n == 94) [ true ↦ 4 | false ↦ 2 ] ]

-- a system call ends its interval: it is done if the mark says so, and one that continues has the mark's value as its result
abbrev pub system_step : Program → ℕ → Interval → Position → Ask → ℕ → ℕ → Next
system_step i h v p ask n a0 =
    let reason = call_reason n in
    let value : ℕ = elim (reason == 2) [ true ↦ 0 | false ↦ a0 ] in
    elim (p.state.ic + 1 == v.mark.ic && (reason == v.mark.reason) && ((reason == 2) || (value == v.mark.value))) [
      | true ↦ elim (reason == 2) [
        | true ↦ On (record { state = absorbed ask (Answer v.mark.value); loads = p.loads; conditionals = p.conditionals; rows = call_row h i p.state (Some (10, v.mark.value)) ∷ p.rows; called = true })
        | false ↦ On (record { state = absorbed ask Over; loads = p.loads; conditionals = p.conditionals; rows = call_row h i p.state None ∷ p.rows; called = true })
      ]
      | false ↦ Stop (Refused (EndDiffers h v.mark (found (p.state.ic + 1) reason value)))
    ]

-- an instruction that asks. A loading access gets the logged word, else the word that the rows know. A store-conditional
-- succeeds if the log says so. A system call has to be that of the End, and a fault before the End's count is refused
abbrev pub ask_step : Program → ℕ → Interval → Position → Want → Next
ask_step i h v p k = elim k as (λ x. Next) [
  | Load a w s rd ↦ elim (word_for v p a) [ None ↦ missing h p a | Some x ↦ after_ask i h p (record { state = p.state; want = k }) (Word x) 1 (Some (a, x)) None ]
  | LoadReserved a rd ↦ elim (word_for v p a) [ None ↦ missing h p a | Some x ↦ after_ask i h p (record { state = p.state; want = k }) (Word x) 1 (Some (a, x)) None ]
  | Amo a o rd y ↦ elim (word_for v p a) [ None ↦ missing h p a | Some x ↦ after_ask i h p (record { state = p.state; want = k }) (Word x) 1 (Some (a, x)) (Some (a, amo_result o x y)) ]
  | Store a w y ↦ elim (w == 4) [
    | true ↦ after_ask i h p (record { state = p.state; want = k }) Stored 0 None (Some (a, y))
    | false ↦ elim (word_for v p a) [ None ↦ missing h p a | Some x ↦ after_ask i h p (record { state = p.state; want = k }) Stored 1 None (Some (a, stored_word a w y x)) ]
  ]
  | StoreConditional a rd y ↦ elim (slot v.conditionals p.conditionals) [ None ↦ Stop (Refused (ScMissing h p.state.ic)) | Some b ↦ after_sc i h p (record { state = p.state; want = k }) b a y ]
  | System n args ↦ system_step i h v p (record { state = p.state; want = k }) n (slice_index args 0)
  | Cut ↦ Stop Done
  | Faulted f y ↦ Stop (Refused (EndDiffers h v.mark (found p.state.ic (16 + fault_number f) y)))
]

-- the next instruction, if the mark's count isn't reached
abbrev pub one_step : Program → ℕ → Interval → Position → Next
one_step i h v p = elim (step i p.state) [
  | Quiet t ↦ On (record { state = t; loads = p.loads; conditionals = p.conditionals; rows = row_of h i p.state t None None ∷ p.rows; called = false })
  | Asks k ↦ ask_step i h v p k
]

-- ---- the end

-- the first loads and store-conditionals that were not met
abbrev pub left_over : ℕ → Interval → Position → Outcome
left_over h v p = let n = (length v.loads - taken_from 0 v.loads p.loads) + (length v.conditionals - p.conditionals) in elim (n == 0) [ true ↦ Done | false ↦ Refused (RecordsLeft h n) ]

-- rows given latest first, before more of them
abbrev pub onto : List Row → List Row → List Row
onto [] more = more
onto (r ∷ rs) more = onto rs (r ∷ more)

-- the rows, the oldest first, and how the replay ended
abbrev pub finish : List Row → Outcome → Replayed
finish rows o = record { rows = onto rows []; outcome = o }

-- what is asked at the mark's count, if the mark is a fault
abbrev pub fault_end : Program → ℕ → Interval → Position → Want → Replayed
fault_end i h v p (Faulted f y) = elim (16 + fault_number f == v.mark.reason && (y == v.mark.value)) [
  | true ↦ finish (fault_row h i p.state f y ∷ p.rows) (left_over h v p)
  | false ↦ finish p.rows (Refused (EndDiffers h v.mark (found p.state.ic (16 + fault_number f) y)))
]
fault_end i h v p k = finish p.rows (Refused (EndDiffers h v.mark (found p.state.ic 1 0)))

-- the mark's count is reached: a fault (above 16) has to come next; a call (2), exit (3) or exit_group (4) has to be the
-- last instruction; other reasons need nothing
abbrev pub ended : Program → ℕ → Interval → Position → Replayed
ended i h v p = elim (nat_lt 16 v.mark.reason) [
  | true ↦ elim (step i p.state) [ Quiet t ↦ finish p.rows (Refused (EndDiffers h v.mark (found p.state.ic 1 0))) | Asks k ↦ fault_end i h v p k ]
  | false ↦ elim ((v.mark.reason == 2 || (v.mark.reason == 3) || (v.mark.reason == 4)) && not p.called) [
    | true ↦ finish p.rows (Refused (EndDiffers h v.mark (found p.state.ic 1 0)))
    | false ↦ finish p.rows (left_over h v p)
  ]
]

-- n instructions are left up to the mark's count
abbrev pub steps : Program → ℕ → Interval → ℕ → Position → Replayed
steps i h v zero p = ended i h v p
steps i h v (suc n) p = elim (one_step i h v p) [ On q ↦ steps i h v n q | Stop o ↦ finish p.rows o ]

-- the position in which the replay of an interval begins
abbrev pub first : Interval → Position
first v = record { state = v.start; loads = 0; conditionals = 0; rows = []; called = false }

-- the rows and the outcome of an interval, if the log has its Header
abbrev pub replayed_in : Program → ℕ → ℕ → Option Interval → Replayed
replayed_in i h c None = record { rows = []; outcome = Refused (NoInterval h c) }
replayed_in i h c (Some v) = steps i h v (v.mark.ic - v.start.ic) (first v)

-- the rows and the outcome of interval c of hart h
abbrev pub replayed : Program → List Record → ℕ → ℕ → Replayed
replayed i records h c = replayed_in i h c (interval_of h c records)
