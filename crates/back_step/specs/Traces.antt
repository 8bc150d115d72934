-- Joint replays with the steps that led to them.
use Rattle.std.specs.Prelude.{◌≡◌, ℕ, List, [], ◌∷◌, ◌++◌, map, take, Option, Some, None, Result, Ok, Err}
use Rattle.hart_replay.specs.declared.error.ReplayError.{ReplayError}
use Rattle.joint_replay.specs.declared.kinds.Stepped.{Stepped}
use Rattle.joint_replay.specs.declared.kinds.Stepped.TheVariants.{Passed, Did, Ended}
use Rattle.joint_replay.specs.Lanes.{Item, Passing, Doing, Ending}
use Rattle.joint_replay.specs.Joining.{Joining, Taken, Walk, begun, readiness, coming, next_step}
use Rattle.joint_replay.specs.Memory.{word_in}
use Rattle.joint_replay.specs.Orders.{walk_on}
use Rattle.joint_replay.specs.Calls.{state_at}
use Rattle.back_step.specs.declared.entry.Entry.{Entry}

-- the entry of a step: the hart's count there, and the pc of a row
abbrev pub entry_of : ℕ → Item → Entry
entry_of h (Passing ic) = record { hart = h; ic = ic; pc = None }
entry_of h (Doing before row) = record { hart = h; ic = row.ic; pc = Some row.pc }
entry_of h (Ending n mark) = record { hart = h; ic = mark.ic; pc = None }

-- the entry of a step, as a caller is told of the step
abbrev pub entry_told : ℕ → Stepped → Entry
entry_told h (Passed g ic) = record { hart = h; ic = ic; pc = None }
entry_told h (Did row) = record { hart = h; ic = row.ic; pc = Some row.pc }
entry_told h (Ended g n mark) = record { hart = h; ic = mark.ic; pc = None }

-- those of steps, which are given latest first
abbrev pub entries_of : List Taken → List Entry
entries_of [] = []
entries_of (t ∷ ts) = entries_of ts ++ entry_of t.hart t.item ∷ []

-- the harts of steps with these entries
abbrev pub harts_of : List Entry → List ℕ
harts_of entries = map (λ (e : Entry). e.hart) entries

-- a joint replay: what it began as, the steps from there, the first first, and its present state
pub record Trace : Type 0 where
  pub start : Joining
  pub entries : List Entry
  pub now : Joining

-- a trail: of which number the positions with a copy are multiples, and its trace
pub record Trailed : Type 0 where
  pub every : ℕ
  pub trace : Trace

-- the trace of a joint replay before its first step
abbrev pub at_start : Joining → Trace
at_start j = record { start = j; entries = []; now = j }

-- ---- the state at a list of harts

-- a joint replay that begins so and took a step of each of these harts, one after another
abbrev pub state_after : Joining → List ℕ → Joining
state_after start harts = elim (walk_on (begun start) harts) [ None ↦ start | Some w ↦ w.now ]

-- a joint replay shows the state at a list of harts; it is the very same, unless it repeats a refusal
pub record IsStateAfter (start : Joining) (harts : List ℕ) (j : Joining) (w : Walk) : Type 0 where
  pub walk : walk_on (begun start) harts ≡ Some w
  pub ready : (h : ℕ) → readiness j h ≡ readiness w.now h
  pub coming : (h : ℕ) → coming j h ≡ coming w.now h
  pub states : (h : ℕ) → state_at j h ≡ state_at w.now h
  pub words : (a : ℕ) → word_in j.memory a ≡ word_in w.now.memory a
  pub whole : j.refused ≡ None → j ≡ w.now

-- the present state of a trace is that after steps of its entries' harts, and its entries are those of these steps
pub record IsGoneBack (t : Trace) : Type 0 where
  pub walk : Walk
  pub stands : IsStateAfter t.start (harts_of t.entries) t.now walk
  pub taken : t.entries ≡ entries_of walk.taken

-- ---- steps forward and back

-- a trace with the entry of one more step of hart h, unless that is refused
abbrev pub with_entry : Trace → ℕ → Result (Item × Joining) ReplayError → Result (Item × Trace) ReplayError
with_entry t h (Err e) = Err e
with_entry t h (Ok x) = Ok (x.0, record { start = t.start; entries = t.entries ++ entry_of h x.0 ∷ []; now = x.1 })

-- the next step of a hart, if it has one; or its refusal
abbrev pub trace_step : Trace → ℕ → Option (Result (Item × Trace) ReplayError)
trace_step t h = elim (next_step t.now h) [ None ↦ None | Some r ↦ Some (with_entry t h r) ]

-- with a refusal that is repeated
abbrev pub refusing : Trace → ReplayError → Trace
refusing t e = record { start = t.start; entries = t.entries; now = record t.now { refused = Some e } }

-- the first steps alone
abbrev pub cut : Trace → ℕ → Trace
cut t to = record { start = t.start; entries = take to t.entries; now = state_after t.start (harts_of (take to t.entries)) }
