-- What a replay knows from its log and its rows, and when two such sides tell the same.
use Rattle.std.specs.Prelude.{◌≡◌, ℕ, zero, suc, ◌+◌, ◌-◌, ◌*◌, ◌/◌, ◌^◌, ◌==◌, ◌⊎◌, if◌then◌else◌, Bool, true, false, List, [], ◌∷◌, take, length, Option, Some, None, Result, Ok, Err}
use Rattle.hart_replay.specs.Common.{Program, EndMark, Row, HartState, count_up, aligned, known, Reply, Answer, Over, Want, Load, Store, LoadReserved, StoreConditional, Amo, System, Cut, Faulted}
use Rattle.bn_base.specs.declared.fault.Fault.{Fault}
use Rattle.hart_replay.specs.declared.error.ReplayError.{ReplayError}
use Rattle.hart_replay.specs.declared.error.ReplayError.TheVariants.{OutOfMemory}
use Rattle.hart_replay.specs.Replay.{Outcome, Done, Refused, Replayed, Interval, Position, Next, On, Stop, logged, taken_from, slot, or_else}
use Rattle.hart_replay.specs.Scans.{Pending, due}
use Rattle.hart_replay.specs.Pages.{Frame, word_at}
use Rattle.hart_replay.specs.Coming.{outcome_only, to_come, a_word_comes}

-- the log's part, with how much of it is met, and the rows
pub record Side : Type 0 where
  pub loads : List (ℕ × ℕ)
  pub met : ℕ
  pub conditionals : List Bool
  pub tried : ℕ
  pub rows : List Row

-- the interval from a state to a mark, with a side's records
abbrev pub interval_at : HartState → EndMark → Side → Interval
interval_at s m a = record { start = s; loads = a.loads; conditionals = a.conditionals; mark = m }

-- the position at a state, with what a side has met
abbrev pub position_at : HartState → Bool → Side → Position
position_at s called a = record { state = s; loads = a.met; conditionals = a.tried; rows = a.rows; called = called }

-- the side of a later position of the same interval
abbrev pub later : Side → Position → Side
later a q = record { loads = a.loads; met = q.loads; conditionals = a.conditionals; tried = q.conditionals; rows = q.rows }

-- two sides tell the same from here on: first loads, store-conditionals, how many are left, and words
pub record Alike (a b : Side) : Type 0 where
  pub loads : (k : ℕ) → logged a.loads (a.met + k) ≡ logged b.loads (b.met + k)
  pub loads_left : (k : ℕ) → length a.loads - taken_from 0 a.loads (a.met + k) ≡ length b.loads - taken_from 0 b.loads (b.met + k)
  pub conditionals : (k : ℕ) → slot a.conditionals (a.tried + k) ≡ slot b.conditionals (b.tried + k)
  pub conditionals_left : (k : ℕ) → length a.conditionals - (a.tried + k) ≡ length b.conditionals - (b.tried + k)
  pub words : (w : ℕ) → known (aligned w) a.rows ≡ known (aligned w) b.rows

-- ---- the words of pages, as rows

-- how many aligned words the addresses of 32 bits have
unfoldable pub word_count : ℕ
word_count = 2 ^ 30

-- a row that tells a known word
abbrev pub word_row : ℕ → Option ℕ → Row
word_row k None = record { hart = 0; ic = 0; pc = 0; word = None; reg = None; load = None; store = None; fault = None }
word_row k (Some w) = record { hart = 0; ic = 0; pc = 0; word = None; reg = None; load = Some (4 * k, w); store = None; fault = None }

-- the words of pages below number n, each as a row, the highest number first
abbrev pub rows_below : List (ℕ × Frame) → ℕ → List Row
rows_below pages zero = []
rows_below pages (suc n) = word_row n (word_at pages n) ∷ rows_below pages n

-- what is left of the log, and the words of the pages
abbrev pub side : Pending → List Bool → List (ℕ × Frame) → Side
side loads conditionals pages = record { loads = loads.loads; met = loads.skipped; conditionals = conditionals; tried = 0; rows = rows_below pages word_count }

-- ---- a replay that knows a side

-- what is to come
abbrev pub side_to_come : Program → ℕ → EndMark → HartState → Bool → Side → Replayed
side_to_come i h m s called a = to_come i h (interval_at s m a) (m.ic - s.ic) (position_at s called a)

-- the next instruction continues, with a row, to a state and a side that tells the same
abbrev pub Goes : Side → Next → Row → HartState → Bool → Side → Type 0
Goes a (On q) row t called b = (q.state ≡ t) × (q.called ≡ called) × (take 1 q.rows ≡ row ∷ []) × Alike (later a q) b
Goes a (Stop o) row t called b = ⊥

-- how a replay ended that is done, or that stopped by an error
abbrev pub outcome_of : Result (Unit {0}) ReplayError → Outcome
outcome_of (Ok u) = Done
outcome_of (Err e) = Refused e

-- what is left, if the replay may be over
abbrev pub left_by : Option (Result (Unit {0}) ReplayError) → Replayed → Replayed
left_by None x = x
left_by (Some r) x = outcome_only (outcome_of r)

-- the row that was written, if one was
abbrev pub rows_if : Bool → Row → List Row
rows_if true row = row ∷ []
rows_if false row = []

-- the next instruction is done, and its row tells a word
abbrev pub KeepsWord : Next → Type 0
KeepsWord (On q) = a_word_comes q.rows ≡ true
KeepsWord (Stop o) = ⊥

-- an instruction at state s did what the definition says: it continued, and this row was written, or it stopped. It may run
-- out of memory in place of a row that tells a word, and of nothing else
abbrev pub Does : Side → Next → HartState → Result (Unit {0}) ReplayError → Row → HartState → Bool → Side → Type 0
Does a n s (Ok u) row t called b = Goes a n row t called b × (t.ic ≡ count_up s.ic)
Does a n s (Err e) row t called b = ((n ≡ Stop (Refused e)) ⊎ ((e ≡ OutOfMemory) × KeepsWord n)) × (t ≡ s)

-- a system call is asked for
abbrev pub IsSystem : Want → Type 0
IsSystem (Load a w s rd) = ⊥
IsSystem (LoadReserved a rd) = ⊥
IsSystem (Amo a o rd y) = ⊥
IsSystem (Store a w y) = ⊥
IsSystem (StoreConditional a rd y) = ⊥
IsSystem (System n args) = Unit {0}
IsSystem Cut = ⊥
IsSystem (Faulted f y) = ⊥

-- the word for a loading access: the first load's that is due, else the known one
abbrev pub word_due : Pending → Option ℕ → Option ℕ
word_due p o = or_else (due p.skipped p.loads) o

-- the fault that is asked, with its value
abbrev pub fault_in : Want → Option (Fault × ℕ)
fault_in (Load a w s rd) = None
fault_in (LoadReserved a rd) = None
fault_in (Amo a o rd y) = None
fault_in (Store a w y) = None
fault_in (StoreConditional a rd y) = None
fault_in (System n args) = None
fault_in Cut = None
fault_in (Faulted f y) = Some (f, y)

-- the words of pages after one was told
abbrev pub Keeps : List (ℕ × Frame) → (ℕ × ℕ) → List (ℕ × Frame) → Type 0
Keeps old told new = (k : ℕ) → word_at new k ≡ (if k == told.0 / 4 then Some told.1 else word_at old k)

-- what a system call that ends its interval writes, and the reply to it: its result, or none at an exit
abbrev pub call_reg : ℕ → ℕ → Option (ℕ × ℕ)
call_reg reason value = elim (reason == 2) [ true ↦ Some (10, value) | false ↦ None ]

-- the reply to that call: its result, or that all is over
abbrev pub call_answer : ℕ → ℕ → Reply
call_answer reason value = elim (reason == 2) [ true ↦ Answer value | false ↦ Over ]
