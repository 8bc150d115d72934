-- What each command does, and what it prints.
use Rattle.std.specs.Prelude.{ℕ, zero, suc, ◌+◌, ◌-◌, ◌==◌, nat_lt, Bool, true, false, not, List, [], ◌∷◌, ◌++◌, length, slice_get, slice_index, codes, decimal, Option, Some, None, Result, Ok, Err}
use Rattle.step_debugger.specs.Common.{list_any, filter, ReplayError, Stuck, Joining, readiness, coming, choice, error_of, positions_from, steps_left, state_at, Trace, at_start, trace_step, refusing, cut}
use Rattle.bn_base.specs.declared.state.HartState.{HartState}
use Rattle.rv_text.specs.Instructions.{hex8}
use Rattle.rv_text.specs.Names.{register_name}
use Rattle.joint_replay.specs.declared.kinds.Coming.TheVariants.{PassAt, RowAt, EndAt}
use Rattle.joint_replay.specs.declared.kinds.Readiness.{Readiness}
use Rattle.joint_replay.specs.declared.kinds.Readiness.TheVariants as is
use Rattle.joint_replay.specs.declared.kinds.Next.{Next}
use Rattle.joint_replay.specs.declared.kinds.Next.TheVariants as next
use Rattle.joint_replay.specs.Lanes.{Item, count_of}
use Rattle.joint_replay.specs.Memory.{word_in}
use Rattle.joint_replay.specs.Texts.{item_text}
use Rattle.back_step.specs.declared.entry.Entry.{Entry}
use Rattle.step_debugger.specs.declared.command.DebugCommand.{DebugCommand}
use Rattle.step_debugger.specs.declared.command.DebugCommand.TheVariants as to
use Rattle.step_debugger.specs.declared.stop.Stop.{Stop}
use Rattle.step_debugger.specs.declared.session.Ending.{Ending}
use Rattle.step_debugger.specs.declared.session.Ending.TheVariants.{GoesOn, Quits, Refused}

-- ---- the lines

-- a hart and its count
unfoldable pub point_text : ℕ → ℕ → List ℕ
point_text h ic = decimal h ++ codes " " ++ decimal ic

-- the line of the hart that was chosen
unfoldable pub hart_text : ℕ → List ℕ
hart_text h = codes "hart " ++ decimal h ++ codes "\n"

-- the line of the hart and count that are waited for
unfoldable pub waits_text : ℕ → ℕ → List ℕ
waits_text s ic = codes "waits " ++ point_text s ic ++ codes "\n"

-- the line of a stop at a breakpoint: hart, count, pc
unfoldable pub stop_text : ℕ → ℕ → ℕ → List ℕ
stop_text h ic pc = codes "stop " ++ point_text h ic ++ codes " " ++ hex8 pc ++ codes "\n"

-- a line of a word and an address
unfoldable pub address_text : List ℕ → ℕ → List ℕ
address_text word addr = word ++ hex8 addr ++ codes "\n"

-- what is known of a word
unfoldable pub word_text : ℕ → Option ℕ → List ℕ
word_text addr None = hex8 addr ++ codes " unknown\n"
word_text addr (Some w) = hex8 addr ++ codes "=" ++ hex8 w ++ codes "\n"

-- a register and what it holds
unfoldable pub register_text : List ℕ → ℕ → List ℕ
register_text x r = register_name r ++ codes "=" ++ hex8 (slice_index x r)

-- two registers, and a line of four
unfoldable pub two_text : List ℕ → ℕ → List ℕ
two_text x r = register_text x r ++ codes " " ++ register_text x (r + 1)

-- a line of four registers
unfoldable pub four_text : List ℕ → ℕ → List ℕ
four_text x r = two_text x r ++ codes " " ++ two_text x (r + 2) ++ codes "\n"

-- four lines, and all eight
unfoldable pub half_text : List ℕ → ℕ → List ℕ
half_text x r = four_text x r ++ four_text x (r + 4) ++ four_text x (r + 8) ++ four_text x (r + 12)

-- the answer to `regs`: all registers in eight lines, or that there is no state
abbrev pub registers_text : Option HartState → List ℕ
registers_text None = codes "no state\n"
registers_text (Some s) = half_text s.x 0 ++ half_text s.x 16

-- the pc of a hart that isn't at an ordering point
abbrev pub pc_at : Joining → ℕ → Option ℕ
pc_at j h = elim (state_at j h) [ None ↦ None | Some s ↦ Some s.pc ]

-- eight hexadecimal digits, or as many hyphens
abbrev pub pc_text : Option ℕ → List ℕ
pc_text None = codes "--------"
pc_text (Some pc) = hex8 pc

-- the end of a hart's line: it is ready, waits, or is done
abbrev pub readiness_text : Readiness → List ℕ
readiness_text is.Ready = codes "ready\n"
readiness_text (is.Waits s ic) = waits_text s ic
readiness_text is.Done = codes "done\n"

-- the count and the pc of what comes next of a hart, and whether it waits
unfoldable pub place_text : ℕ → ℕ → Option ℕ → Readiness → List ℕ
place_text h ic pc ready = point_text h ic ++ codes " " ++ pc_text pc ++ codes " " ++ readiness_text ready

-- the line of a hart that is done
unfoldable pub hart_done_text : ℕ → List ℕ
hart_done_text h = decimal h ++ codes " done\n"

-- the line of a hart in the answer to `where`
abbrev pub hart_place : Joining → ℕ → List ℕ
hart_place j h = elim (coming j h) [ None ↦ hart_done_text h | Some c ↦ place_text h (count_of c) (pc_at j h) (readiness j h) ]

-- so many harts from one on
abbrev pub places_from : Joining → ℕ → ℕ → List ℕ
places_from j h zero = []
places_from j h (suc n) = hart_place j h ++ places_from j (h + 1) n

-- ---- steps

-- steps of a joint replay: what they print, its state then with the steps that led there, and how they end
pub record Moves : Type 0 where
  pub text : List ℕ
  pub now : Trace
  pub ends : Ending

-- no step, but a text
abbrev pub stays : Trace → List ℕ → Moves
stays t text = record { text = text; now = t; ends = GoesOn }

-- a step that is refused, with no text
abbrev pub refuses : Trace → ReplayError → Moves
refuses t e = record { text = []; now = refusing t e; ends = Refused (error_of e) }

-- moves that print this first
abbrev pub after : List ℕ → Moves → Moves
after text m = record m { text = text ++ m.text }

-- one more step of a hart, which is told, and how it continues; if it isn't ready, what it waits for
abbrev pub step_by : Trace → ℕ → Readiness → Option (Result (Item × Trace) ReplayError) → (Trace → Moves) → Moves
step_by t h is.Ready None go = stays t []
step_by t h is.Ready (Some (Err e)) go = refuses t e
step_by t h is.Ready (Some (Ok x)) go = after (item_text h x.0) (go x.1)
step_by t h (is.Waits s ic) step go = stays t (waits_text s ic)
step_by t h is.Done step go = stays t (codes "done\n")

-- a hart steps up to so many times
abbrev pub step_up_to : ℕ → ℕ → Trace → Moves
step_up_to h zero t = stays t []
step_up_to h (suc k) t = step_by t h (readiness t.now h) (trace_step t h) (λ u. step_up_to h k u)

-- ---- breakpoints

-- the most breakpoints
abbrev pub break_limit : ℕ
break_limit = 64

-- whether an address has a breakpoint
abbrev pub is_set : List ℕ → ℕ → Bool
is_set breaks addr = list_any (λ b. b == addr) breaks

-- the count and the pc of a hart's next row, if that is at a breakpoint
abbrev pub stop_at : List ℕ → Joining → ℕ → Option (ℕ × ℕ)
stop_at breaks j h = elim (coming j h) [
  | None ↦ None
  | Some c ↦ elim c [
    | PassAt ic ↦ None
    | RowAt ic ↦ elim (state_at j h) [ None ↦ None | Some s ↦ elim (is_set breaks s.pc) [ true ↦ Some (ic, s.pc) | false ↦ None ] ]
    | EndAt ic ↦ None
  ]
]

-- the first step doesn't stop
abbrev pub stop_unless : Bool → List ℕ → Joining → ℕ → Option (ℕ × ℕ)
stop_unless true breaks j h = None
stop_unless false breaks j h = stop_at breaks j h

-- one more step, which isn't told, and how it continues; but before it the stop at a breakpoint
abbrev pub go_past : Trace → ℕ → Option (ℕ × ℕ) → Option (Result (Item × Trace) ReplayError) → (Trace → Moves) → Moves
go_past t h (Some at) step go = stays t (stop_text h at.0 at.1)
go_past t h None None go = stays t []
go_past t h None (Some (Err e)) go = refuses t e
go_past t h None (Some (Ok x)) go = go x.1

-- the lowest ready hart steps
abbrev pub go_by : Bool → List ℕ → Trace → Next → (Trace → Moves) → Moves
go_by first breaks t next.AllDone go = stays t (codes "done\n")
go_by first breaks t next.NoneReady go = record { text = []; now = t; ends = Refused (Stuck (positions_from 0 t.now.lanes)) }
go_by first breaks t (next.Hart h) go = go_past t h (stop_unless first breaks t.now h) (trace_step t h) go

-- at most n steps
abbrev pub go_for : ℕ → Bool → List ℕ → Trace → Moves
go_for zero first breaks t = stays t []
go_for (suc n) first breaks t = go_by first breaks t (choice t.now) (λ u. go_for n false breaks u)

-- steps until all harts are done, none is ready, one is refused, or a row is at a breakpoint
abbrev pub go_on : Bool → List ℕ → Trace → Moves
go_on first breaks t = go_for (steps_left t.now.lanes + 1) first breaks t

-- ---- ways back

-- the line of a position: how many steps lead to it
unfoldable pub at_text : ℕ → List ℕ
at_text position = codes "at " ++ decimal position ++ codes "\n"

-- goes to a position, and prints this
abbrev pub goes_back : Trace → ℕ → List ℕ → Moves
goes_back t to text = stays (cut t to) text

-- so many steps back, but no further than the beginning
abbrev pub back_by : ℕ → Trace → Moves
back_by k t = goes_back t (length t.entries - k) (at_text (length t.entries - k))

-- a step from a position, as the stop before it is told
abbrev pub stop_of : ℕ → Entry → ℕ → Stop
stop_of position e pc = record { position = position; hart = e.hart; ic = e.ic; pc = pc }

-- the stop before a step, if its row is at a breakpoint
abbrev pub stop_before : List ℕ → ℕ → Option Entry → Option Stop
stop_before breaks position None = None
stop_before breaks position (Some e) = elim e.pc [ None ↦ None | Some pc ↦ elim (is_set breaks pc) [ true ↦ Some (stop_of position e pc) | false ↦ None ] ]

-- the latest stop below a position
abbrev pub stop_below : List ℕ → List Entry → ℕ → Option Stop
stop_below breaks entries zero = None
stop_below breaks entries (suc n) = elim (stop_before breaks n (slice_get entries n)) [ Some stop ↦ Some stop | None ↦ stop_below breaks entries n ]

-- to the latest stop, or to the start
abbrev pub back_to : Trace → Option Stop → Moves
back_to t None = goes_back t 0 (codes "start\n")
back_to t (Some stop) = goes_back t stop.position (stop_text stop.hart stop.ic stop.pc)

-- back to the latest step whose row is at a breakpoint, else to the start
abbrev pub back_to_stop : List ℕ → Trace → Moves
back_to_stop breaks t = back_to t (stop_below breaks t.entries (length t.entries))

-- ---- a session

-- the state of a session: its joint replay, with the steps that led there; the chosen hart; and the breakpoints
pub record Session : Type 0 where
  pub trace : Trace
  pub hart : ℕ
  pub breaks : List ℕ

-- before the first command
abbrev pub begin_at : Trace → Session
begin_at t = record { trace = t; hart = 0; breaks = [] }

-- a session before its first command
abbrev pub begin : Joining → Session
begin j = begin_at (at_start j)

-- what a command prints, the session after it, and whether it ends then
pub record Answer : Type 0 where
  pub text : List ℕ
  pub session : Session
  pub ends : Ending

-- a text, and the session continues as it is
abbrev pub says : Session → List ℕ → Answer
says s text = record { text = text; session = s; ends = GoesOn }

-- the text of steps, and the session after them
abbrev pub moved : Session → Moves → Answer
moved s m = record { text = m.text; session = record s { trace = m.now }; ends = m.ends }

-- the answer to what is no command
abbrev pub unknown : Session → Answer
unknown s = says s (codes "?\n")

-- another hart is chosen, if there is one of this number
abbrev pub choose : Session → ℕ → Answer
choose s n = elim (nat_lt n (length s.trace.now.lanes)) [ true ↦ says (record s { hart = n }) (hart_text n) | false ↦ unknown s ]

-- a breakpoint is set, unless there are too many
abbrev pub add_break : Session → ℕ → Answer
add_break s addr = elim (is_set s.breaks addr) [
  | true ↦ says s (address_text (codes "break ") addr)
  | false ↦ elim (nat_lt (length s.breaks) break_limit) [
    | true ↦ says (record s { breaks = s.breaks ++ addr ∷ [] }) (address_text (codes "break ") addr)
    | false ↦ says s (codes "full\n")
  ]
]

-- a breakpoint is taken away, if it is set
abbrev pub take_break : Session → ℕ → Answer
take_break s addr = elim (is_set s.breaks addr) [
  | true ↦ says (record s { breaks = filter (λ b. not (b == addr)) s.breaks }) (address_text (codes "unbreak ") addr)
  | false ↦ says s (codes "none\n")
]

-- the answer to each command
abbrev pub answer : Session → DebugCommand → Answer
answer s to.Empty = says s []
answer s (to.Hart n) = choose s n
answer s (to.Step k) = moved s (step_up_to s.hart k s.trace)
answer s (to.Back k) = moved s (back_by k s.trace)
answer s to.ReverseGo = moved s (back_to_stop s.breaks s.trace)
answer s to.Go = moved s (go_on true s.breaks s.trace)
answer s (to.Break addr) = add_break s addr
answer s (to.Unbreak addr) = take_break s addr
answer s to.Registers = says s (registers_text (state_at s.trace.now s.hart))
answer s (to.Word addr) = says s (word_text addr (word_in s.trace.now.memory addr))
answer s to.Where = says s (places_from s.trace.now 0 (length s.trace.now.lanes))
answer s to.Quit = record { text = []; session = s; ends = Quits }
answer s to.Other = unknown s
