-- What a machine that runs keeps, the machines of the definition that it represents, and what an answer needs.
use Rattle.std.specs.Prelude.{ℕ, ◌+◌, ◌-◌, ◌*◌, ◌%◌, ◌^◌, ◌==◌, ◌≡◌, ◌≤◌, ◌<◌, ⊤, IsTrue, Bool, true, false, List, length, drop, get_or, Option, Some, None}
use Rattle.run_model.specs.Common.{Program, is_aligned, Want, Store, System, Reply, Write, Kernel, Plan, IsWithin, stream_size, HoldsMap, HasPages}
use Rattle.bn_base.specs.declared.settings.TheConstants.{HARTS}
use Rattle.rv_meaning.specs.declared.asks.Reply.TheVariants as replies
use Rattle.system_calls.specs.declared.effect.Plan.TheVariants as plans
use Rattle.bus_memory.specs.Contents.{Contents}
use Rattle.run_model.specs.declared.span.Span.{Span}
use Rattle.run_model.specs.Machine.{Machine, Answered}
use Rattle.run_model.specs.Turn.{span_of}

-- memory, the word that each hart has reserved (as many as there can be), and the program break. Then how many bytes of the
-- input were taken, the two output streams, and how much room each of them has
pub record MachineParts : Type 0 where
  pub memory : Contents
  pub reserved : List (Option ℕ)
  pub brk : ℕ
  pub taken : ℕ
  pub out : List ℕ
  pub err : List ℕ
  pub out_room : ℕ
  pub err_room : ℕ

-- the size of memory in bytes
abbrev pub size_of : MachineParts → ℕ
size_of p = 4 * length p.memory.words

-- a list of reservations represents a map from harts
pub record AreReserved (rs : List (Option ℕ)) (f : ℕ → Option ℕ) : Type 0 where
  pub at : (k : ℕ) → k < HARTS → get_or rs k None ≡ f k

-- the parts represent a machine that has this whole input
pub record IsMachine (input : List ℕ) (p : MachineParts) (m : Machine) : Type 0 where
  pub memory : HoldsMap p.memory.words m.memory
  pub reserved : AreReserved p.reserved m.reserved
  pub brk : p.brk ≡ m.brk
  pub left : drop p.taken input ≡ m.input
  pub out : p.out ≡ m.out
  pub err : p.err ≡ m.err

-- what a system call sees of the parts
abbrev pub kernel_in : List ℕ → MachineParts → Kernel
kernel_in input p = record { brk = p.brk; input_left = length input - p.taken; out_len = length p.out; err_len = length p.err }

-- the same machine, but for what memory was found: pages that are made, and room in the streams
pub record IsSameMachine (old new : MachineParts) : Type 0 where
  pub words : new.memory.words ≡ old.memory.words
  pub reserved : new.reserved ≡ old.reserved
  pub brk : new.brk ≡ old.brk
  pub taken : new.taken ≡ old.taken
  pub out : new.out ≡ old.out
  pub err : new.err ≡ old.err

-- whether a system call is asked for
abbrev pub is_system : Want → Bool
is_system (System number args) = true
is_system want = false

-- a call is planned for a system call alone, and keeps to its bounds
abbrev pub IsPlanned : Program → List ℕ → MachineParts → Option Plan → Want → Type 0
IsPlanned i input p None want = ⊤
IsPlanned i input p (Some plan) want = IsTrue (is_system want) × IsWithin plan (kernel_in input p) i

-- ---- what an answer needs

-- aligned words that lie in memory
abbrev pub AreWordsIn : Contents → Option Span → Type 0
AreWordsIn c None = ⊤
AreWordsIn c (Some s) = (s.first % 4 ≡ 0) × (s.first + 4 * s.count ≤ 4 * length c.words)

-- aligned words that end within the addresses
abbrev pub AreAddresses : Option Span → Type 0
AreAddresses None = ⊤
AreAddresses (Some s) = (s.first % 4 ≡ 0) × (s.first + 4 * s.count ≤ 2 ^ 32)

-- the words lie in memory, and if they are written, their pages are made
pub record IsSpanReady (c : Contents) (s : Span) : Type 0 where
  pub aligned : s.first % 4 ≡ 0
  pub within : s.first + 4 * s.count ≤ 4 * length c.words
  pub pages : s.mode ≡ Write → HasPages c s.first s.count

-- the same of the words of an ask, if there are any
abbrev pub AreWordsReady : Contents → Option Span → Type 0
AreWordsReady c None = ⊤
AreWordsReady c (Some s) = IsSpanReady c s

-- a store is of 1, 2 or 4 bytes at a multiple of its width
abbrev pub has_width : Want → Bool
has_width (Store a width v) = is_aligned a width
has_width want = true

-- a stream has room for so many bytes more: the first of the two, or the second
abbrev pub HasStreamRoom : Bool → MachineParts → ℕ → Type 0
HasStreamRoom true p n = (length p.out + n ≤ p.out_room) × (length p.out + n ≤ stream_size)
HasStreamRoom false p n = (length p.err + n ≤ p.err_room) × (length p.err + n ≤ stream_size)

-- the input has the bytes that a call takes, and the stream has room for those that it sends
abbrev pub HasCallRoom : List ℕ → MachineParts → Plan → Type 0
HasCallRoom input p (plans.Fill a n) = p.taken + n ≤ length input
HasCallRoom input p (plans.Send s a n) = HasStreamRoom (s == 1) p n
HasCallRoom input p plan = ⊤

-- only a system call is planned, and the plan has room
abbrev pub HasPlanRoom : List ℕ → MachineParts → Option Plan → Want → Type 0
HasPlanRoom input p None want = ⊤
HasPlanRoom input p (Some plan) want = IsTrue (is_system want) × HasCallRoom input p plan

-- an ask can be answered without more memory: its words are ready, also those of an SC that succeeds, and its call has room
pub record HasRoom (input : List ℕ) (p : MachineParts) (call : Option Plan) (want : Want) : Type 0 where
  pub words : AreWordsReady p.memory (span_of call want replies.ScOk)
  pub width : IsTrue (has_width want)
  pub plan : HasPlanRoom input p call want

-- the parts were `old` and are `new`, and the reply is given: this is what each machine that they represent answers
pub record IsAnswer (input : List ℕ) (old new : MachineParts) (given : Reply) (answer : Machine → Answered) : Type 0 where
  pub reply : (m : Machine) → IsMachine input old m → given ≡ (answer m).reply
  pub stands : (m : Machine) → IsMachine input old m → IsMachine input new (answer m).machine
