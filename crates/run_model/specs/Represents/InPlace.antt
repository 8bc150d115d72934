-- A hart whose quiet instructions are done in its own place, up to what it asks.
use Rattle.std.specs.Prelude.{ℕ, ◌==◌, ◌≡◌, true, false, slice_set}
use Rattle.run_model.specs.Common.{HartState, Ask, Want}
use Rattle.run_model.specs.declared.hart.Hart.{Hart}
use Rattle.run_model.specs.declared.trace.Trace.{Trace}
use Rattle.run_model.specs.Turn.{Run}
use Rattle.run_model.specs.Represents.Harts.{hart_in}

-- what a hart asks in its present state
abbrev pub ask_here : Hart → Want → Ask
ask_here h want = record { state = h.state; want = want }

-- the hart in another state
abbrev pub in_state : HartState → Hart → Hart
in_state s h = record h { state = s }

-- the harts, hart k in another state
abbrev pub moved_harts : (ℕ → Hart) → ℕ → HartState → ℕ → Hart
moved_harts harts k s j = elim (j == k) [ true ↦ in_state s (harts k) | false ↦ harts j ]

-- the run, hart k in another state
abbrev pub moved_run : Run → ℕ → HartState → Run
moved_run run k s = record run { harts = moved_harts run.harts k s }

-- from one to the other hart k is in another state, and nothing else has changed
pub record IsMoved (k : ℕ) (s : HartState) (old new : Trace) : Type 0 where
  pub harts : new.harts.items ≡ slice_set old.harts.items k (in_state s (hart_in old.harts.items k))
  pub caches : new.caches ≡ old.caches
  pub shadow : new.shadow ≡ old.shadow
  pub log : new.log ≡ old.log
