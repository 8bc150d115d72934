-- Warm words stay known, over turns.
use Rattle.replay_laws.proofs.Common.{◌∙◌, ◌≡◌, ℕ, Bool, true, false, ◌==◌, List, ◌∷◌, refl, sym, ap, subst, Option, false≢true, eq-eqb, Program, RawSettings, HartState, is_counted, passes, Event, Clear, geometry_of, warm, GoesOn, Run, turn, ask_at, is_guarded, is_orderly, guarded_run, budget, Agrees, learned, touched_at, next_at, WarmWordsStayKnown, and_parts}
use Rattle.replay_laws.proofs.Agree.{agrees_past}
use Rattle.replay_laws.proofs.Asked.{served_ask}
use Rattle.replay_laws.proofs.Own.{agrees_asked}
use Rattle.replay_laws.proofs.Splits.{served}

-- the run in which hart k's ask is answered
abbrev answering : RawSettings → Program → Run → ℕ → Run
answering c i run k = guarded_run (is_guarded c run k (ask_at c i (run.harts k)).want) run k (ask_at c i (run.harts k)).state

-- the turn of an orderly ask
turn_served : (c : RawSettings) (i : Program) (run : Run) (k : ℕ) → is_orderly c i (run.harts k) (ask_at c i (run.harts k)) ≡ true → served_ask c i (answering c i run k) k (ask_at c i (run.harts k)) ≡ turn c i run k
turn_served c i run k o = sym (served (is_guarded c run k (ask_at c i (run.harts k)).want) c i run k o refl)

-- a guard leaves no word warm to its hart, and what the others know
guarded_own : (guard : Bool) (c : RawSettings) (run : Run) (k : ℕ) (s : HartState) (known : ℕ → Option ℕ) → Agrees c run k known → Agrees c (guarded_run guard run k s) k known
guarded_own true c run k s known a b own warm_now =
    absurd (false≢true (ap (λ (x : Bool). warm (geometry_of c) b (elim x as (λ y. List Event) [ true ↦ Clear ∷ run.events k | false ↦ run.events k ])) (sym (eq-eqb k k refl)) ∙ warm_now))
guarded_own false c run k s known a b own warm_now = a b own warm_now

guarded_other : (guard : Bool) (c : RawSettings) (run : Run) (k h : ℕ) (s : HartState) (known : ℕ → Option ℕ) → (h == k) ≡ false → Agrees c run h known → Agrees c (guarded_run guard run k s) h known
guarded_other true c run k h s known apart a b own warm_now =
    a b own (ap (λ (x : Bool). warm (geometry_of c) b (elim x as (λ y. List Event) [ true ↦ Clear ∷ run.events h | false ↦ run.events h ])) (sym apart) ∙ warm_now)
guarded_other false c run k h s known apart a b own warm_now = a b own warm_now

own : (c : RawSettings) (i : Program) (run : Run) (k : ℕ) (known : ℕ → Option ℕ) → is_orderly c i (run.harts k) (ask_at c i (run.harts k)) ≡ true → next_at c i run k ≡ GoesOn
    → Agrees c run k known → Agrees c (turn c i run k) k (learned (touched_at c i run k) (turn c i run k).machine.memory known)
own c i run k known o n a =
    let h = run.harts k in
    let ask = ask_at c i h in
    let fine : passes i ask.want ≡ true = (and_parts (is_counted h.state.ic (budget c h) ask.want ask.state.ic) (passes i ask.want) o).1 in
    subst (λ (r : Run). Agrees c r k (learned (touched_at c i run k) r.machine.memory known)) (turn_served c i run k o)
    (agrees_asked c i (answering c i run k) k ask known fine n (guarded_own (is_guarded c run k ask.want) c run k ask.state known a))

others : (c : RawSettings) (i : Program) (run : Run) (k h : ℕ) (known : ℕ → Option ℕ) → is_orderly c i (run.harts k) (ask_at c i (run.harts k)) ≡ true → (h == k) ≡ false
    → Agrees c run h known → Agrees c (turn c i run k) h known
others c i run k h known o apart a =
    let ask = ask_at c i (run.harts k) in
    subst (λ (r : Run). Agrees c r h known) (turn_served c i run k o) (agrees_past c i (answering c i run k) k h ask known apart (guarded_other (is_guarded c run k ask.want) c run k h ask.state known apart a))

pub warm_words : WarmWordsStayKnown
warm_words = record { own = own; others = others }
