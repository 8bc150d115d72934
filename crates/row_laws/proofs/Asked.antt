-- Names for what a hart's turn asks and what it gets, and how the turn moves its hart.
use Rattle.row_laws.proofs.Common.{◌≡◌, ℕ, Bool, false, ◌∙◌, ap, ◌==◌, Program, RawSettings, absorbed, call_of, Run, serve, served_if, serve_call, is_guarded, turn, ask_at, TurnsMoveTheirHart, AsksOrderly, want_at, asked_at, ◌↔◌, IsTrue, Point, Writes}
use Rattle.replay_laws.proofs.Asked.{state_after as answered_state}
use Rattle.race_log.specs.Tests.{writes_word}

-- ---- a turn of hart h

-- the run after it, where the ask is orderly; a guard, if the ask has one, leaves machine, turns and points
abbrev pub served : RawSettings → Program → Run → ℕ → Run
served c i run h = (serve_call c run h (ask_at c i (run.harts h)) (is_guarded c run h (want_at c i run h)) (call_of i run.machine (want_at c i run h))).run

pub turn_served : (c : RawSettings) (i : Program) (run : Run) (h : ℕ) → AsksOrderly c i run h → turn c i run h ≡ served c i run h
unfolding serve
turn_served c i run h o = ap (λ (x : Bool). (served_if x c i run h (ask_at c i (run.harts h))).run) o

-- such a turn sets its hart's state to the one after the reply, and leaves the others'
pub record Moves (c : RawSettings) (i : Program) (run : Run) (h : ℕ) : Type 0 where
  pub asks : AsksOrderly c i run h
  pub own : ((turn c i run h).harts h).state ≡ answered_state c i run.machine h (want_at c i run h) (asked_at c i run h)
  pub others : (j : ℕ) → (j == h) ≡ false → ((turn c i run h).harts j).state ≡ (run.harts j).state

pub moves : TurnsMoveTheirHart → (c : RawSettings) (i : Program) (run : Run) (h : ℕ) → AsksOrderly c i run h → Moves c i run h
unfolding serve
moves law c i run h o = record {
  asks = o;
  own = law.own c i run h o ∙ ap (λ (x : Bool). absorbed (ask_at c i (run.harts h)) (served_if x c i run h (ask_at c i (run.harts h))).reply) o;
  others = λ j apart. law.others c i run h j o apart;
}

-- ---- small facts

-- the law of race_log that is used here
abbrev pub DecidesWrites : Type 0
DecidesWrites = (word : ℕ) (p : Point) → IsTrue (writes_word word p) ↔ Writes word p
