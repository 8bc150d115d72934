-- The machine that all harts share: its memory, the harts' reservations, and what system calls change; and how it answers what
-- a hart asks. The files of this folder say what a recording is, and nothing of code. Those of `Represents` say which machines and
-- runs the parts of the code represent.
use Rattle.std.specs.Prelude.{ℕ, zero, suc, ◌+◌, ◌-◌, ◌*◌, ◌/◌, ◌%◌, ◌==◌, nat_lt, nat_le, Bool, true, false, ◌&&◌, List, [], ◌∷◌, ◌++◌, length, take, drop, slice_index, Option, Some, None, cond, if◌then◌else◌}
use Rattle.run_model.specs.Common.{Program, RawSettings, aligned, bytes_at, with_bytes, stored_word, amo_result, Ask, Want, Load, Store, LoadReserved, StoreConditional, Amo, System, Cut, Faulted, Reply, Kernel, Plan, plan_of, updated}
use Rattle.rv_meaning.specs.declared.amo.AmoOp.{AmoOp}
use Rattle.rv_meaning.specs.declared.asks.Reply.TheVariants as replies
use Rattle.system_calls.specs.declared.effect.Plan.TheVariants as plans

-- the word at each aligned address, the word that each hart has reserved, the program break, what is left of the input,
-- and the two output streams
pub record Machine : Type 0 where
  pub memory : ℕ → ℕ
  pub reserved : ℕ → Option ℕ
  pub brk : ℕ
  pub input : List ℕ
  pub out : List ℕ
  pub err : List ℕ

-- what a system call sees of it
abbrev pub kernel_of : Machine → Kernel
kernel_of m = record { brk = m.brk; input_left = length m.input; out_len = length m.out; err_len = length m.err }

-- what the system call of a number does with its arguments
abbrev pub planned : Program → Machine → (number : ℕ) (args : List ℕ) → Plan
planned i m number args = plan_of number (slice_index args 0) (slice_index args 1) (slice_index args 2) (kernel_of m) i

-- what is planned if a hart asks for a system call
abbrev pub call_of : Program → Machine → Want → Option Plan
call_of i m (System number args) = Some (planned i m number args)
call_of i m want = None

-- ---- bytes in memory

-- memory with a byte written
abbrev pub put_byte : ℕ → ℕ → (ℕ → ℕ) → ℕ → ℕ
put_byte a v memory = updated (aligned a) (with_bytes (a % 4) 1 v (memory (aligned a))) memory

-- memory with bytes written from an address on
abbrev pub filled : ℕ → List ℕ → (ℕ → ℕ) → ℕ → ℕ
filled a [] memory = memory
filled a (v ∷ vs) memory = filled (a + 1) vs (put_byte a v memory)

-- so many bytes of memory from an address on
abbrev pub bytes_in : (ℕ → ℕ) → ℕ → ℕ → List ℕ
bytes_in memory a zero = []
bytes_in memory a (suc n) = bytes_at (a % 4) 1 (memory (aligned a)) ∷ bytes_in memory (a + 1) n

-- how many aligned words have some of n bytes from an address on
abbrev pub word_count : ℕ → ℕ → ℕ
word_count a n = (a + n + 3) / 4 - a / 4

-- ---- reservations

-- hart h's reservation is this, and the others' are as given
abbrev pub reserving : ℕ → Option ℕ → (ℕ → Option ℕ) → ℕ → Option ℕ
reserving h own others k = cond (k == h) own (others k)

-- a reservation, unless it is of a word that passes a test
abbrev pub unless : (ℕ → Bool) → Option ℕ → Option ℕ
unless test None = None
unless test (Some a) = cond (test a) None (Some a)

-- hart h wrote a word: the other harts' reservations of it end
abbrev pub others_lose : ℕ → ℕ → (ℕ → Option ℕ) → ℕ → Option ℕ
others_lose h a reserved k = cond (k == h) (reserved k) (unless (λ b. b == a) (reserved k))

-- whether an aligned word is one of so many from the first on
abbrev pub is_among : (first count : ℕ) → ℕ → Bool
is_among first count a = nat_le first a && nat_lt a (first + 4 * count)

-- a system call filled words: all harts' reservations of them end
abbrev pub all_lose : (first count : ℕ) → (ℕ → Option ℕ) → ℕ → Option ℕ
all_lose first count reserved k = unless (is_among first count) (reserved k)

-- whether a reservation is of the word
abbrev pub is_reserved : Option ℕ → ℕ → Bool
is_reserved None a = false
is_reserved (Some b) a = b == a

-- ---- answers

-- the reply to an ask, and the machine after it
pub record Answered : Type 0 where
  pub reply : Reply
  pub machine : Machine

-- the two together
abbrev pub answered : Reply → Machine → Answered
answered reply m = record { reply = reply; machine = m }

-- the machine with other reservations
abbrev pub with_reserved : (ℕ → Option ℕ) → Machine → Machine
with_reserved reserved m = record m { reserved = reserved }

-- the machine with another memory and other reservations
abbrev pub with_memory : (ℕ → ℕ) → (ℕ → Option ℕ) → Machine → Machine
with_memory memory reserved m = record m { memory = memory; reserved = reserved }

-- a stream takes bytes: the first of the two, or the second
abbrev pub sent : Bool → List ℕ → Machine → Machine
sent true bytes m = record m { out = m.out ++ bytes }
sent false bytes m = record m { err = m.err ++ bytes }

-- what a planned system call of hart h does; the hart's reservation ends with it
abbrev pub answer_call : Plan → ℕ → Machine → Answered
answer_call (plans.Fill a n) h m =
    answered (replies.Answer n) (record m { memory = filled a (take n m.input) m.memory; input = drop n m.input; reserved = reserving h None (all_lose (aligned a) (word_count a n) m.reserved) })
answer_call (plans.Send s a n) h m = answered (replies.Answer n) (sent (s == 1) (bytes_in m.memory a n) (with_reserved (reserving h None m.reserved) m))
answer_call (plans.Break v) h m = answered (replies.Answer v) (record m { brk = v; reserved = reserving h None m.reserved })
answer_call (plans.Answer v) h m = answered (replies.Answer v) (with_reserved (reserving h None m.reserved) m)
answer_call (plans.EndHart v) h m = answered replies.Over (with_reserved (reserving h None m.reserved) m)
answer_call (plans.EndRun v) h m = answered replies.Over (with_reserved (reserving h None m.reserved) m)

-- what a store of hart h does, of so many bytes
abbrev pub answer_store : (a width v h : ℕ) → Machine → Answered
answer_store a width v h m =
    answered replies.Stored (with_memory (updated (aligned a) (stored_word a width v (m.memory (aligned a))) m.memory) (others_lose h (aligned a) m.reserved) m)

-- what an AMO of hart h does: the reply is the word before
abbrev pub answer_amo : ℕ → AmoOp → (v h : ℕ) → Machine → Answered
answer_amo a op v h m = answered (replies.Word (m.memory a)) (with_memory (updated a (amo_result op (m.memory a) v) m.memory) (others_lose h a m.reserved) m)

-- what an SC of hart h does: it writes if the hart has reserved that word, and ends the reservation (section 8.2)
abbrev pub answer_sc : Bool → ℕ → ℕ → ℕ → Machine → Answered
answer_sc true a v h m = answered replies.ScOk (with_memory (updated a v m.memory) (reserving h None (others_lose h a m.reserved)) m)
answer_sc false a v h m = answered replies.ScFailed (with_reserved (reserving h None m.reserved) m)

-- a cut at the limit ends the hart; after any other it continues
abbrev pub cut_reply : RawSettings → ℕ → Reply
cut_reply c ic = if nat_le c.limit ic then replies.Over else replies.Went

-- the answer to what hart h asks, but for a system call
abbrev pub answer_access : RawSettings → Machine → ℕ → Ask → Answered
answer_access c m h ask = elim (ask.want) [
  | Load a width signed rd ↦ answered (replies.Word (m.memory (aligned a))) m
  | LoadReserved a rd ↦ answered (replies.Word (m.memory a)) (with_reserved (reserving h (Some a) m.reserved) m)
  | Store a width v ↦ answer_store a width v h m
  | Amo a op rd v ↦ answer_amo a op v h m
  | StoreConditional a rd v ↦ answer_sc (is_reserved (m.reserved h) a) a v h m
  | System number args ↦ answered replies.Over m
  | Cut ↦ answered (cut_reply c ask.state.ic) m
  | Faulted kind value ↦ answered replies.Over m
]

-- the answer to what hart h asks, by the call that is planned for it, if one is. A written word ends the other harts'
-- reservations of it; a system call ends its own hart's, and all harts' of the words that it fills
abbrev pub answer : RawSettings → Option Plan → Machine → ℕ → Ask → Answered
answer c None m h ask = answer_access c m h ask
answer c (Some plan) m h ask = answer_call plan h m
