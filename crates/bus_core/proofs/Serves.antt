-- What serving an ask comes to.
use Rattle.bus_core.proofs.Common.{◌≡◌, ℕ, ◌+◌, refl, Bool, true, false, ◌||◌, sym, ◌∙◌, ap, Option, Result, Ok, Err, OnErr, IsErrAnd, Program, RawSettings, Ask, Reply, PlainParts, IsRun, Run, serve, serve_call, serve_disorderly, served_if, is_orderly, is_guarded, AnswersAsk}
use Rattle.system_calls.specs.declared.effect.Plan.{Plan}
use Rattle.run_model.specs.Machine.{call_of}

pub served_orderly : (c : RawSettings) (i : Program) (run : Run) (k : ℕ) (ask : Ask) (call : Option Plan) → call ≡ call_of i run.machine ask.want → is_orderly c i (run.harts k) ask ≡ true → serve_call c run k ask (is_guarded c run k ask.want) call ≡ serve c i run k ask
unfolding serve
served_orderly c i run k ask call ec o = ap (λ (x : Option Plan). serve_call c run k ask (is_guarded c run k ask.want) x) ec ∙ sym (ap (λ (b : Bool). served_if b c i run k ask) o)

pub served_disorderly : (c : RawSettings) (i : Program) (run : Run) (k : ℕ) (ask : Ask) → is_orderly c i (run.harts k) ask ≡ false → serve_disorderly run ≡ serve c i run k ask
unfolding serve
served_disorderly c i run k ask o = sym (ap (λ (b : Bool). served_if b c i run k ask) o)

-- memory runs out, and the machine represents the same run
pub kept_on_err : {E : Type 0} {p q : PlainParts} {k : ℕ} {ask : Ask} (P : E → Type 0) (r : Result (Reply × Bool) E) → IsErrAnd r P → q.start ≡ p.start → ((run : Run) → IsRun p run → IsRun q run) → AnswersAsk p q k ask r
kept_on_err P (Ok x) h same stays = absurd h
kept_on_err P (Err e) h same stays = record { start = same; served = stays }

-- what holds in any case holds on an error
pub on_err : {A E : Type 0} (r : Result A E) (P : Type 0) → P → OnErr r P
on_err (Ok x) P p = tt
on_err (Err e) P p = p

-- a test or another
pub or_first : (a s o : Bool) → s ≡ a → a ≡ true → s ≡ (a || o)
or_first a s o es ea = es ∙ ea ∙ sym (ap (λ (x : Bool). x || o) ea)

pub or_second : (a s o : Bool) → s ≡ o → a ≡ false → s ≡ (a || o)
or_second a s o es ea = es ∙ sym (ap (λ (x : Bool). x || o) ea)

turns_by : (o : Bool) (c : RawSettings) (i : Program) (run : Run) (k : ℕ) (ask : Ask) → (served_if o c i run k ask).run.turns ≡ run.turns + 1
turns_by true c i run k ask = refl
turns_by false c i run k ask = refl

-- each served ask counts as a turn
pub served_turns : (c : RawSettings) (i : Program) (run : Run) (k : ℕ) (ask : Ask) → (serve c i run k ask).run.turns ≡ run.turns + 1
unfolding serve
served_turns c i run k ask = turns_by (is_orderly c i (run.harts k) ask) c i run k ask
