-- What single steps of a command do, and what is sent of a text.
use Rattle.std.specs.Prelude.{◌≡◌, ℕ, ◌+◌, Bool, true, List, ◌++◌, Option, Some, None, Result, Ok, Err}
use Rattle.step_debugger.specs.Common.{Appends, Rose, AppendsPart, AppendsShort, Stream, ReplayError, JointError, readiness, choice, steps_left, Trace, trace_step}
use Rattle.hart_replay.specs.declared.error.ReplayError.TheVariants as replay
use Rattle.joint_replay.specs.declared.error.JointError.TheVariants as joint
use Rattle.step_debugger.specs.declared.error.DebugError.{DebugError}
use Rattle.step_debugger.specs.declared.error.DebugError.TheVariants.{WriteFault, Joint, OutOfMemory}
use Rattle.step_debugger.specs.declared.session.Ending.{Ending}
use Rattle.step_debugger.specs.declared.session.Ending.TheVariants.{GoesOn, Quits, Refused}
use Rattle.step_debugger.specs.declared.focus.Focus.{Focus}
use Rattle.step_debugger.specs.declared.command.DebugCommand.{DebugCommand}
use Rattle.step_debugger.specs.Commands.{command_of}
use Rattle.step_debugger.specs.Answers.{Session, Answer, Moves, after, step_by, step_up_to, go_by, go_on, answer}

-- how the refusal of a step is told; out of memory is none
abbrev pub refused_by : JointError → Result Ending DebugError
refused_by (joint.Replay e) = Ok (Refused (joint.Replay e))
refused_by (joint.Stuck positions) = Ok (Refused (joint.Stuck positions))
refused_by joint.OutOfMemory = Err OutOfMemory

-- how a command ends whose answer is told
abbrev pub done_by : {E : Type 0} → Result (Unit {0}) E → Result Ending DebugError
done_by (Ok u) = Ok GoesOn
done_by (Err e) = Err OutOfMemory

-- moves that end there
abbrev pub ended : List ℕ → Trace → Ending → Moves
ended text now ending = record { text = text; now = now; ends = ending }

-- one step of a hart is done and told, whatever follows; or the steps end there; or memory runs out
abbrev pub StepsOnce : Trace → ℕ → Result (Option Ending) DebugError → Trace → (text now_text : List ℕ) → Type 0
StepsOnce old h (Ok None) new text now_text = (piece : List ℕ) × (now_text ≡ text ++ piece) × ((go : Trace → Moves) → step_by old h (readiness old.now h) (trace_step old h) go ≡ after piece (go new))
StepsOnce old h (Ok (Some ending)) new text now_text = (piece : List ℕ) × (now_text ≡ text ++ piece) × ((go : Trace → Moves) → step_by old h (readiness old.now h) (trace_step old h) go ≡ ended piece new ending)
StepsOnce old h (Err e) new text now_text = e ≡ OutOfMemory

-- one step of the lowest ready hart is done, whatever follows; or the steps end there; or memory runs out
abbrev pub GoesOnce : Bool → List ℕ → Trace → Result (Option Ending) DebugError → Trace → (text now_text : List ℕ) → Type 0
GoesOnce first breaks old (Ok None) new text now_text = (now_text ≡ text) × (steps_left new.now.lanes + 1 ≡ steps_left old.now.lanes) × ((go : Trace → Moves) → go_by first breaks old (choice old.now) go ≡ go new)
GoesOnce first breaks old (Ok (Some ending)) new text now_text = (piece : List ℕ) × (now_text ≡ text ++ piece) × ((go : Trace → Moves) → go_by first breaks old (choice old.now) go ≡ ended piece new ending)
GoesOnce first breaks old (Err e) new text now_text = e ≡ OutOfMemory

-- ---- a refusal and out of memory are told apart

-- an error that isn't out of memory
abbrev pub IsRefusal : JointError → Type 0
IsRefusal joint.OutOfMemory = ⊥
IsRefusal e = Unit {0}

-- the joint replay repeats no refusal, or only that memory ran out
abbrev pub IsUnrefused : Trace → Type 0
IsUnrefused t = (e : ReplayError) → t.now.refused ≡ Some e → e ≡ replay.OutOfMemory

-- if no refusal was repeated before, none is now
abbrev pub StaysUnrefused : Trace → Trace → Type 0
StaysUnrefused old new = IsUnrefused old → IsUnrefused new

-- what a command tells as a refusal isn't out of memory; and if the session continues, or the command is told as out of memory, no step was refused
abbrev pub EndsApart : Trace → Ending → Trace → Type 0
EndsApart old GoesOn new = StaysUnrefused old new
EndsApart old Quits new = StaysUnrefused old new
EndsApart old (Refused e) new = IsRefusal e

-- what a command tells as a refusal isn't out of memory, also if an error stops the command
abbrev pub TellsApart : Trace → Result Ending DebugError → Trace → Type 0
TellsApart old (Ok ending) new = EndsApart old ending new
TellsApart old (Err OutOfMemory) new = StaysUnrefused old new
TellsApart old (Err e) new = Unit {0}

-- what one step tells as a refusal isn't out of memory; other steps may follow it
abbrev pub StepsApart : Trace → Result (Option Ending) DebugError → Trace → Type 0
StepsApart old (Ok None) new = StaysUnrefused old new
StepsApart old (Ok (Some ending)) new = EndsApart old ending new
StepsApart old (Err e) new = StaysUnrefused old new

-- what a session tells as a refusal isn't out of memory
abbrev pub StopsApart : Trace → Result (Unit {0}) DebugError → Trace → Type 0
StopsApart old (Ok u) new = StaysUnrefused old new
StopsApart old (Err (Joint e)) new = IsRefusal e
StopsApart old (Err OutOfMemory) new = StaysUnrefused old new
StopsApart old (Err e) new = Unit {0}

-- ---- what is sent

-- why sending stopped: memory ran out, or a write failed
abbrev pub Stops : (old new : Stream) → DebugError → Type 0
Stops old new OutOfMemory = Unit {0}
Stops old new WriteFault = Rose old.faults new.faults
Stops old new e = ⊥

-- a prefix of a text was sent; not all of it, if a write failed
abbrev pub SendsPart : DebugError → Option (List ℕ) → Option (List ℕ) → List ℕ → Type 0
SendsPart WriteFault written now_written text = AppendsShort written now_written text
SendsPart e written now_written text = AppendsPart written now_written text

-- a text was sent, or a prefix of it
abbrev pub Sends : {A : Type 0} → List ℕ → (A → Type 0) → (old new : Stream) → Result A DebugError → Type 0
Sends text P old new (Ok value) = Appends old.text new.text text × P value
Sends text P old new (Err e) = SendsPart e old.text new.text text × Stops old new e

-- of a text some was sent and the rest waits, or a prefix of it was sent
abbrev pub Gathers : {A : Type 0} → List ℕ → (A → Type 0) → (old new : Stream) → (waiting : List ℕ) → Result A DebugError → Type 0
Gathers text P old new waiting (Ok value) = (sent : List ℕ) × Appends old.text new.text sent × (text ≡ sent ++ waiting) × P value
Gathers text P old new waiting (Err e) = SendsPart e old.text new.text text × Stops old new e

-- ---- a session, by its parts

-- the session that has this trace, this hart and these breakpoints
abbrev pub session_of : Trace → Focus → Session
session_of t d = record { trace = t; hart = d.hart; breaks = d.breaks.items }

-- a command that isn't a step is told
pub record Says (a : Answer) (t : Trace) (d : Focus) (text now_text : List ℕ) : Type 0 where
  pub told : now_text ≡ text ++ a.text
  pub session : session_of t d ≡ a.session

-- moves were made and told, or memory ran out
abbrev pub MovesBy : Moves → Result Ending DebugError → Trace → (text now_text : List ℕ) → Type 0
MovesBy m (Ok ending) new text now_text = (now_text ≡ text ++ m.text) × (new ≡ m.now) × (ending ≡ m.ends)
MovesBy m (Err e) new text now_text = e ≡ OutOfMemory

-- all harts stepped up to a breakpoint, or memory ran out
abbrev pub Goes : List ℕ → Trace → Result Ending DebugError → Trace → (text now_text : List ℕ) → Type 0
Goes breaks old result new text now_text = MovesBy (go_on true breaks old) result new text now_text

-- ---- commands

-- what a hart's steps print is appended to a text
abbrev pub TellsSteps : ℕ → ℕ → (old new : Trace) → (text now_text : List ℕ) → (out now_out : Stream) → Result Ending DebugError → Type 0
TellsSteps h count old new text now_text out now_out result =
    let m : Moves = step_up_to h count old in Gathers (text ++ m.text) (λ ending. (new ≡ m.now) × (ending ≡ m.ends)) out now_out now_text result

-- the answer of a command is appended to a text
abbrev pub Performs : DebugCommand → (old new : Session) → (text now_text : List ℕ) → (out now_out : Stream) → Result Ending DebugError → Type 0
Performs command old new text now_text out now_out result =
    let a : Answer = answer old command in Gathers (text ++ a.text) (λ ending. (new ≡ a.session) × (ending ≡ a.ends)) out now_out now_text result

-- the answer of a line is sent
abbrev pub IsAnswered : List ℕ → (old new : Session) → (out now_out : Stream) → Result Ending DebugError → Type 0
IsAnswered line old new out now_out result =
    let a : Answer = answer old (command_of line) in Sends a.text (λ ending. (new ≡ a.session) × (ending ≡ a.ends)) out now_out result
