-- A turn of a plain machine is a turn of its run.
use Rattle.run_model.proofs.Common.{◌≡◌, ℕ, zero, suc, ◌+◌, ◌<◌, ◌≤◌, ◌^◌, Bool, true, false, List, [], ◌∷◌, length, get_or, sym, ◌∙◌, ap, subst, arith, refl, inl, inr, Option, IsTrue, slice_get, ◌&&◌, slice_get-get_or, leb_tells, Program, RawSettings, HartState, Ask, ask_of, orderly, is_counted, passes, Plan, Hart, call_of, Run, serve, serve_call, serve_orderly, served_if, turn, ask_at, is_orderly, is_guarded, budget, IsFit, AreHarts, is_live_hart, hart_in, lt-ltb, and_parts, le-ltb}
use Rattle.run_model.specs.Runs.{is_live}
use Rattle.run_model.proofs.MoveOn.{budget_limit}

pub live_within : (hs : List Hart) (k : ℕ) → is_live_hart (slice_get hs k) ≡ true → (k < length hs) × ((hart_in hs k).live ≡ true)
live_within [] zero e = cc
live_within [] (suc k) e = cc
live_within (h ∷ hs) zero e = (omega arith, e)
live_within (h ∷ hs) (suc k) e = let rest = live_within hs k e in (omega (arith, rest.0), rest.1)

-- the list says of a hart that is there whether it is live
pub live_there : (hs xs : List Hart) (k i : ℕ) (x : Hart) → xs ≡ hs → i ≡ k → i < length xs → x ≡ get_or xs i x → x.live ≡ is_live_hart (slice_get hs k)
live_there hs xs k i x same at below e =
    ap (λ (h : Hart). h.live) e
    ∙ sym (ap is_live_hart (slice_get-get_or xs i x below))
    ∙ ap (λ (ys : List Hart). is_live_hart (slice_get ys i)) same
    ∙ ap (λ (n : ℕ). is_live_hart (slice_get hs n)) at

-- past the list's end none is live
pub none_live : (hs : List Hart) (k : ℕ) → length hs ≤ k → false ≡ is_live_hart (slice_get hs k)
none_live [] k past = refl
none_live (h ∷ hs) zero past = absurd (omega (arith, past))
none_live (h ∷ hs) (suc k) past = none_live hs k (omega (arith, past))

-- and so it is in the run that the list represents
pub live_in_run : (c : RawSettings) (run : Run) (hs : List Hart) (k : ℕ) → AreHarts hs run.harts → length hs ≡ c.harts → is_live_hart (slice_get hs k) ≡ is_live c run k
live_in_run c run hs k are len = elim (leb_tells c.harts k) [
  | inl p ↦ sym (none_live hs k (omega (arith, p.1, len))) ∙ sym (ap (λ (b : Bool). b && (run.harts k).live) (le-ltb k c.harts p.1))
  | inr p ↦ ap is_live_hart (are k (omega (arith, p.1, len))) ∙ sym (ap (λ (b : Bool). b && (run.harts k).live) (lt-ltb k c.harts p.1))
]

-- what a hart asks next is orderly
pub asked_orderly : ((i : Program) (n : ℕ) (s : HartState) → s.ic + n < 2 ^ 64 → IsTrue (orderly i s.ic n (ask_of i n s))) → (c : RawSettings) (i : Program) (h : Hart) (ask : Ask) → c.limit ≤ 2 ^ 40 → IsFit c h → ask ≡ ask_at c i h → IsTrue (is_orderly c i h ask)
asked_orderly each c i h ask high fit e = subst (λ (a : Ask). IsTrue (is_orderly c i h a)) (sym e) (each i (budget c h) h.state (omega (arith, high, fit.limit, budget_limit c h)))

pub passes_of : (c : RawSettings) (i : Program) (h : Hart) (ask : Ask) → IsTrue (is_orderly c i h ask) → IsTrue (passes i ask.want)
passes_of c i h ask e = (and_parts (is_counted h.state.ic (budget c h) ask.want ask.state.ic) (passes i ask.want) e).1

pub turn_is : (c : RawSettings) (i : Program) (run : Run) (k : ℕ) (ask : Ask) (call : Option Plan) → ask ≡ ask_at c i (run.harts k) → call ≡ call_of i run.machine ask.want → IsTrue (is_orderly c i (run.harts k) ask) → (serve_call c run k ask (is_guarded c run k ask.want) call).run ≡ turn c i run k
unfolding serve
turn_is c i run k ask call ea ec o =
    let q : (serve_call c run k ask (is_guarded c run k ask.want) call).run ≡ (serve_orderly c i run k ask).run = ap (λ (x : Option Plan). (serve_call c run k ask (is_guarded c run k ask.want) x).run) ec in
    let p : (served_if (is_orderly c i (run.harts k) ask) c i run k ask).run ≡ (serve_orderly c i run k ask).run = ap (λ (b : Bool). (served_if b c i run k ask).run) o in
    q ∙ sym p ∙ ap (λ (a : Ask). (served_if (is_orderly c i (run.harts k) a) c i run k a).run) ea

pub ask_is : (c : RawSettings) (i : Program) (x h : Hart) (ask : Ask) (b : ℕ) → x ≡ h → b ≡ budget c x → ask ≡ ask_of i b x.state → ask ≡ ask_at c i h
ask_is c i x h ask b e eb ea = ea ∙ ap (λ (n : ℕ). ask_of i n x.state) eb ∙ ap (λ (y : Hart). ask_of i (budget c y) y.state) e
