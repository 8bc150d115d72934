-- Turns of a hart that is alone, one after another, done in its own place.
use Rattle.std.specs.Prelude.{◌≡◌, ◌≤◌, ◌<◌, ◌+◌, ◌-◌, ◌*◌, ◌^◌, ◌==◌, ◌&&◌, nat_lt, ℕ, Bool, IsTrue, List, length, true, false, None, replicate}
use Rattle.run_model.specs.Common.{Program, RawSettings, Walking, AsksThere, count_up, is_cut, add, Want, Shadow, harts_of, lasts, next_turn, next_count}
use Rattle.run_model.specs.declared.hart.Hart.{Hart}
use Rattle.run_model.specs.declared.span.Span.{Span}
use Rattle.run_model.specs.declared.turn_end.TurnEnd.TheVariants.{GoesOn}
use Rattle.run_model.specs.declared.trace.Trace.{Trace}
use Rattle.run_model.specs.Machine.{Machine, call_of}
use Rattle.run_model.specs.Turn.{Run, turn, ask_at, budget, counted, bytes_since, header_size, is_orderly}
use Rattle.run_model.specs.Runs.{run_from}
use Rattle.run_model.specs.Runs as runs
use Rattle.run_model.specs.Represents.Accessed.{AsksHere, IsTaken}
use Rattle.run_model.specs.Represents.EachCache.{steps_in}
use Rattle.run_model.specs.Represents.Harts.{hart_in}
use Rattle.run_model.specs.Represents.InPlace.{IsMoved}
use Rattle.run_model.specs.Represents.Logs.{taken}
use Rattle.run_model.specs.Represents.Plain.{PlainParts, IsRun}
use Rattle.run_model.specs.Represents.Turning.{is_live}

-- the race log can take in an access of the one hart's instruction of this count, at this turn
pub record CanNoteAlone (s : Shadow) (turn at : ℕ) : Type 0 where
  pub alone : harts_of s ≡ 1
  pub ic : at < 2 ^ 41
  pub turns : next_turn s ≤ turn
  pub counts : next_count s 0 ≤ at
  pub lasting : IsTrue (lasts s 0)

-- the one hart can access these words in its own place: it has a cache, the race log can take the access in, and the log
-- has room for a record
pub record CanAccessAlone (t : Trace) (turn at : ℕ) (words : Span) : Type 0 where
  pub hart : 0 < length t.harts.items
  pub caches : 0 < length t.caches
  pub steps : steps_in t.caches 0 < 2 ^ 42
  pub addresses : words.first + 4 * words.count ≤ 2 ^ 32
  pub note : CanNoteAlone t.shadow turn at
  pub room : taken t.log.ring + 17 < 2 ^ 56

-- from one to the other a hart did an instruction after which its interval continues
pub record IsOneOn (old new : Hart) : Type 0 where
  pub pc : new.state.pc ≡ add old.state.pc 4
  pub ic : new.state.ic ≡ old.state.ic + 1
  pub live : new.live ≡ old.live
  pub begun : new.begun ≡ old.begun
  pub headed : new.headed ≡ old.headed

-- a hart's way through its code, which ends at this count: it is where the hart is, and then one instruction is left of the
-- hart's budget
pub record IsOnWay (c : RawSettings) (h : Hart) (w : Walking) (end : ℕ) : Type 0 where
  pub pc : w.pc ≡ h.state.pc
  pub end_is : end ≡ h.state.ic + w.left
  pub budget : budget c h ≡ w.left + 1

-- no ask of a hart whose interval began at this count of the log's bytes is guarded, as long as they are fewer than a limit
abbrev pub IsUnguarded : RawSettings → (headed limit : ℕ) → Type 0
IsUnguarded c headed limit = (bytes : ℕ) → bytes < limit → (c.format == 2) && nat_lt c.log_size (2 * (header_size + (bytes - headed))) ≡ false

-- neither a cut nor a system call
pub record IsNoCall (want : Want) : Type 0 where
  pub cut : is_cut want ≡ false
  pub call : (i : Program) (m : Machine) → call_of i m want ≡ None

-- hart 0 is alone and on its way, and its turn from there can be taken if it is an access that needs no memory: no guard
-- cuts it, and its interval continues after it
pub record CanTakeAlone (p : PlainParts) (w : Walking) : Type 0 where
  pub alone : p.start.settings.harts ≡ 1
  pub on : counted p.start.settings (hart_in p.trace.harts.items 0) (count_up (hart_in p.trace.harts.items 0).state.ic) ≡ GoesOn
  pub unguarded : (run : Run) → IsRun p run → (p.start.settings.format == 2) && nat_lt p.start.settings.log_size (2 * bytes_since run 0) ≡ false
  pub asks : (want : Want) → AsksThere w (hart_in p.trace.harts.items 0).state.x want → is_cut want ≡ false → AsksHere p 0 want

-- a turn of hart 0, which asks something there in its present state, was taken, and its interval continues
pub record IsTakenAlone (old new : PlainParts) (w : Walking) : Type 0 where
  pub want : Want
  pub there : AsksThere w (hart_in old.trace.harts.items 0).state.x want
  pub no_call : IsNoCall want
  pub taken : IsTaken old new 0 want
  pub on : IsOneOn (hart_in old.trace.harts.items 0) (hart_in new.trace.harts.items 0)
  pub turns : new.turns ≡ old.turns + 1

-- that turn was taken, or nothing has changed
abbrev pub TakesAlone : Bool → (old new : PlainParts) → Walking → Type 0
TakesAlone true old new w = IsTakenAlone old new w
TakesAlone false old new w = new ≡ old

-- from one to the other quiet instructions of a turn of hart 0 were done, fewer than its budget: it asks the same, and
-- nothing else has changed
pub record IsMovedAlone (old new : PlainParts) : Type 0 where
  pub start : new.start ≡ old.start
  pub machine : new.machine ≡ old.machine
  pub turns : new.turns ≡ old.turns
  pub moved : IsMoved 0 (hart_in new.trace.harts.items 0).state old.trace new.trace
  pub asks : ask_at old.start.settings old.start.image (hart_in new.trace.harts.items 0) ≡ ask_at old.start.settings old.start.image (hart_in old.trace.harts.items 0)

-- from one to the other a turn of hart 0 was taken, and its interval continues
pub record IsTurnedAlone (old new : PlainParts) : Type 0 where
  pub start : new.start ≡ old.start
  pub turns : new.turns ≡ old.turns + 1
  pub live : is_live new 0 ≡ true
  pub headed : (hart_in new.trace.harts.items 0).headed ≡ (hart_in old.trace.harts.items 0).headed
  pub run : (run : Run) → IsRun old run → IsRun new (turn old.start.settings old.start.image run 0)

-- a turn was taken, and the hart is on its way; or it was moved
abbrev pub TurnsAlone : Bool → (old new : PlainParts) → Walking → (end : ℕ) → Type 0
TurnsAlone true old new w end = IsTurnedAlone old new × IsOnWay new.start.settings (hart_in new.trace.harts.items 0) w end
TurnsAlone false old new w end = IsMovedAlone old new

-- so many turns of hart 0
abbrev pub zeros : ℕ → List ℕ
zeros n = replicate n 0

-- the run after so many turns of hart 0
abbrev pub run_alone : RawSettings → Program → Run → ℕ → Run
run_alone c i run n = run_from c i run (zeros n)

-- hart 0 of the run is live, and what it asks next is orderly
pub record CanTurn (c : RawSettings) (i : Program) (run : Run) : Type 0 where
  pub live : runs.is_live c run 0 ≡ true
  pub orderly : is_orderly c i (run.harts 0) (ask_at c i (run.harts 0)) ≡ true

-- from one to the other hart 0 took so many turns from a run, and could take each
pub record HasTurned (old new : PlainParts) (run : Run) (count : ℕ) : Type 0 where
  pub turns : new.turns ≡ old.turns + count
  pub is : IsRun new (run_alone old.start.settings old.start.image run count)
  pub each : (n : ℕ) → n < count → CanTurn old.start.settings old.start.image (run_alone old.start.settings old.start.image run n)

-- it took some, at most so many, from any run that the first represents
abbrev pub HaveTurned : (most : ℕ) → PlainParts → PlainParts → Type 0
HaveTurned most old new = (run : Run) → IsRun old run → (count : ℕ) × (0 < count) × (count ≤ most) × HasTurned old new run count

-- it took fewer than so many, as its count of turns tells, and could take another
abbrev pub HaveStopped : (most : ℕ) → PlainParts → PlainParts → Type 0
HaveStopped most old new = (run : Run) → IsRun old run → (count : ℕ) × (count < most) × (new.turns ≡ old.turns + count) × ((n : ℕ) → n ≤ count → CanTurn old.start.settings old.start.image (run_alone old.start.settings old.start.image run n))
