-- Which asks are those of a hart, and which replies fit them.
use Rattle.std.specs.Prelude.{ℕ, ◌+◌, ◌%◌, ◌==◌, nat_lt, nat_le, Bool, true, false, ◌&&◌, ◌||◌, if◌then◌else◌}
use Rattle.rv_meaning.specs.Common.{Program, may_load, may_store, Fault, Breakpoint}
use Rattle.rv_meaning.specs.declared.asks.Ask.{Ask}
use Rattle.rv_meaning.specs.declared.asks.Want.{Want}
use Rattle.rv_meaning.specs.declared.asks.Want.TheVariants.{Load, Store, LoadReserved, StoreConditional, Amo, System, Cut, Faulted}
use Rattle.rv_meaning.specs.declared.asks.Reply.{Reply}
use Rattle.rv_meaning.specs.declared.asks.Reply.TheVariants.{Word, Stored, ScOk, ScFailed, Answer, Went, Over}

-- a reply is one to a want: a word to a load, LR or AMO, and so on; Over may be the reply to each
abbrev pub is_reply_to : Want → Reply → Bool
is_reply_to want Over = true
is_reply_to (Load addr width signed rd) (Word w) = true
is_reply_to (LoadReserved addr rd) (Word w) = true
is_reply_to (Amo addr op rd value) (Word w) = true
is_reply_to (Store addr width value) Stored = true
is_reply_to (StoreConditional addr rd value) ScOk = true
is_reply_to (StoreConditional addr rd value) ScFailed = true
is_reply_to (System number args) (Answer v) = true
is_reply_to Cut Went = true
is_reply_to want reply = false

-- an access of 1, 2 or 4 bytes at a multiple of its width
abbrev pub is_aligned : ℕ → ℕ → Bool
is_aligned addr width = ((width == 1) || ((width == 2) || (width == 4))) && (addr % width == 0)

-- the tests of a load or LR: alignment, then mapping
abbrev pub passes_load : Program → ℕ → ℕ → Bool
passes_load i addr width = is_aligned addr width && may_load i addr

-- the tests of a store, SC or AMO: alignment, then mapping, then read-only
abbrev pub passes_store : Program → ℕ → ℕ → Bool
passes_store i addr width = is_aligned addr width && (may_load i addr && may_store i addr)

-- the value of a Breakpoint is 0
abbrev pub has_value : Fault → ℕ → Bool
has_value Breakpoint value = value == 0
has_value kind value = true

-- the address of a memory access passes its tests, and a Breakpoint's value is 0
abbrev pub passes : Program → Want → Bool
passes i (Load addr width signed rd) = passes_load i addr width
passes i (LoadReserved addr rd) = passes_load i addr 4
passes i (Store addr width value) = passes_store i addr width
passes i (StoreConditional addr rd value) = passes_store i addr 4
passes i (Amo addr op rd value) = passes_store i addr 4
passes i (System number args) = true
passes i Cut = true
passes i (Faulted kind value) = has_value kind value

-- whether it is a cut, the ask of a hart whose budget is used up
abbrev pub is_cut : Want → Bool
is_cut Cut = true
is_cut want = false

-- the count of an ask: of a cut, that of the hart plus the whole budget; of any other ask, at least that of the hart and
-- below that sum
abbrev pub is_counted : ℕ → ℕ → Want → ℕ → Bool
is_counted from budget want ic =
    if is_cut want then ic == from + budget else nat_le from ic && nat_lt ic (from + budget)

-- An ask is orderly if it comes within the budget and its access passes its tests: alignment, mapping, read-only parts. `from`
-- is the hart's count before its local instructions, `budget` how many it may do.
abbrev pub orderly : Program → ℕ → ℕ → Ask → Bool
orderly i from budget ask = is_counted from budget ask.want ask.state.ic && passes i ask.want
