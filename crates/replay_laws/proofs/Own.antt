-- What a hart's own turn leaves of the agreement between its warm words and what its rows know.
use Rattle.replay_laws.proofs.Common.{◌≡◌, ℕ, ◌*◌, ◌%◌, Bool, true, false, cond, ◌&&◌, List, Option, Some, None, refl, sym, ◌∙◌, ap, arith, subst, inl, inr, ◌==◌, ◌≢◌, eqb-true, eq-eqb, eqb_tells, Program, may_load, may_store, RawSettings, HartState, aligned, passes, Ask, Want, Load, Store, LoadReserved, StoreConditional, Amo, Plan, Mode, Read, Write, Geometry, Event, word_of, geometry_of, warm, Span, TurnEnd, GoesOn, Machine, answer_sc, call_of, is_reserved, Run, ask_at, own_events, other_events, events_after, sc_span, touched, learned, ne_eqb, and_parts}
use Rattle.replay_laws.proofs.Agree.{Agrees, Spared, Unwritten, Outside, warm_touch, warm_dropped, spared}
use Rattle.replay_laws.proofs.Asked.{span_to, next_to, next_at, served_ask, served_turn, touched_to}

-- b isn't the touched word
abbrev Apart : Option ℕ → ℕ → Type 0
Apart None b = Unit {0}
Apart (Some a) b = b ≢ a

-- what a hart itself accesses is one aligned word
abbrev OneWord : Option Plan → Option Span → Type 0
OneWord None None = Unit {0}
OneWord None (Some s) = (s.count ≡ 1) × (aligned s.first ≡ s.first)
OneWord (Some plan) o = Unit {0}

pub aligned_twice : (a : ℕ) → aligned (aligned a) ≡ aligned a
aligned_twice a = omega arith

pub aligned_own : (a : ℕ) (x : Bool) → ((a % 4 == 0) && x) ≡ true → aligned a ≡ a
aligned_own a x e = let z : a % 4 ≡ 0 = eqb-true (a % 4) 0 (and_parts (a % 4 == 0) x e).0 in omega arith

sc_word : (x : Bool) (m : Machine) (h a v : ℕ) → aligned a ≡ a → OneWord None (sc_span (answer_sc x a v h m).reply a)
sc_word true m h a v e = (refl, e)
sc_word false m h a v e = tt

one_word : (w : Want) (c : RawSettings) (i : Program) (m : Machine) (h : ℕ) (s : HartState) → passes i w ≡ true → OneWord (call_of i m w) (span_to c i m h w s)
one_word (Load a wd g rd) c i m h s e = (refl, aligned_twice a)
one_word (LoadReserved a rd) c i m h s e = (refl, aligned_own a (may_load i a) e)
one_word (Store a wd v) c i m h s e = (refl, aligned_twice a)
one_word (Amo a o rd v) c i m h s e = (refl, aligned_own a (may_load i a && may_store i a) e)
one_word (StoreConditional a rd v) c i m h s e = sc_word (is_reserved (m.reserved h) a) m h a v (aligned_own a (may_load i a && may_store i a) e)
one_word w c i m h s e = tt

apart_spared : (x : Mode) (first n b : ℕ) → n ≡ 1 → b ≢ first → Unwritten x first n b
apart_spared Read first n b e h = tt
apart_spared Write first n b e h = subst (λ (k : ℕ). Outside first k b) (sym e) ((λ q. h (omega (arith, q))), tt)

other_word : (a b : ℕ) → aligned a ≡ a → aligned b ≡ b → b ≢ a → (word_of a == word_of b) ≡ false
other_word a b e f h = ne_eqb (word_of a) (word_of b) (λ q. h (sym f ∙ (ap (λ k. k * 4) (sym q) ∙ e)))

-- a word that is warm after the own events and isn't the one touched was warm before, and wasn't written
own_spared : (call : Option Plan) (o : Option Span) (g : Geometry) (b : ℕ) (es : List Event) → OneWord call o → aligned b ≡ b → Apart (touched call o) b
    → warm g b (own_events call o es) ≡ true → Spared o b × (warm g b es ≡ true)
own_spared None None g b es one own p e = (tt, e)
own_spared (Some plan) None g b es one own p e = (tt, e)
own_spared None (Some s) g b es one own p e = (apart_spared s.mode s.first s.count b one.0 p, warm_touch g b s.first es (other_word s.first b one.1 own p) e)
own_spared (Some plan) (Some s) g b es one own p e = warm_dropped g s b es e

-- the history of the hart whose turn it is, if its interval continues
own_history : (n : TurnEnd) (k : ℕ) (call : Option Plan) (o : Option Span) (events : ℕ → List Event) → n ≡ GoesOn
    → events_after n k call o events k ≡ own_events call o (events k)
own_history n k call o events e =
    subst (λ (x : TurnEnd). events_after x k call o events k ≡ own_events call o (events k)) (sym e)
    (ap (λ x. elim x as (λ y. List Event) [ true ↦ own_events call o (events k) | false ↦ other_events o (events k) ]) (eq-eqb k k refl))

learned_at : (t : Option ℕ) (m : ℕ → ℕ) (known : ℕ → Option ℕ) (b : ℕ) → (Apart t b → known b ≡ Some (m b)) → learned t m known b ≡ Some (m b)
learned_at None m known b f = f tt
learned_at (Some a) m known b f = elim (eqb_tells b a) [
  | inl p ↦ ap (λ x. cond x (Some (m a)) (known b)) p.0 ∙ ap (λ x. Some (m x)) (sym p.1)
  | inr p ↦ ap (λ x. cond x (Some (m a)) (known b)) p.0 ∙ f p.1
]

-- after a hart's own ask the agreement stays if its interval continues, with what its row lets it know
pub agrees_asked : (c : RawSettings) (i : Program) (run : Run) (k : ℕ) (ask : Ask) (known : ℕ → Option ℕ) → passes i ask.want ≡ true → next_to c i run.machine k (run.harts k) ask.want ask.state ≡ GoesOn
    → Agrees c run k known → Agrees c (served_ask c i run k ask) k (learned (touched_to c i run.machine k ask.want ask.state) (served_ask c i run k ask).machine.memory known)
agrees_asked c i run k ask known fine n a b own warm_now =
    let w : Want = ask.want in
    let s : HartState = ask.state in
    let o : Option Span = span_to c i run.machine k w s in
    let call : Option Plan = call_of i run.machine w in
    let here : warm (geometry_of c) b (own_events call o (run.events k)) ≡ true =
    sym (ap (warm (geometry_of c) b) (own_history (next_to c i run.machine k (run.harts k) w s) k call o run.events n)) ∙ warm_now in
    learned_at (touched call o) (served_ask c i run k ask).machine.memory known b (λ p.
    let q : Spared o b × (warm (geometry_of c) b (run.events k) ≡ true) =
    own_spared call o (geometry_of c) b (run.events k) (one_word w c i run.machine k s fine) own p here in
    a b own q.1 ∙ ap Some (sym (spared w c i run.machine k s b q.0)))

-- so does its turn without a guard
pub agrees_own : (c : RawSettings) (i : Program) (run : Run) (k : ℕ) (known : ℕ → Option ℕ) → passes i (ask_at c i (run.harts k)).want ≡ true → next_at c i run k ≡ GoesOn
    → Agrees c run k known
    → Agrees c (served_turn c i run k) k
    (learned (touched_to c i run.machine k (ask_at c i (run.harts k)).want (ask_at c i (run.harts k)).state) (served_turn c i run k).machine.memory known)
agrees_own c i run k known fine n a = agrees_asked c i run k (ask_at c i (run.harts k)) known fine n a
