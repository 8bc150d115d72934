-- Warm words have the values that a hart's rows know: what another hart's turn leaves of that.
use Rattle.replay_laws.proofs.Common.{◌≡◌, ℕ, zero, suc, ◌+◌, ◌-◌, ◌*◌, ◌/◌, ◌<◌, ◌≤◌, Bool, true, false, cond, List, [], ◌∷◌, length, Option, Some, None, refl, sym, ◌∙◌, ap, arith, inl, inr, length-take, add-zero, ◌==◌, ◌≢◌, take, false≢true, eq-eqb, eqb_tells, Program, RawSettings, HartState, aligned, Ask, Want, Store, StoreConditional, Amo, System, Plan, updated, Mode, Read, Write, Geometry, Event, line_of, word_of, Touch, Drop, geometry_of, warm, held, Span, TurnEnd, Machine, answer_call, answer_sc, call_of, filled, put_byte, word_count, is_reserved, sent, planned, Run, ask_at, drops, dropped, other_events, own_events, events_after, cleared, call_span, sc_span, ne_eqb}
use Rattle.system_calls.specs.declared.effect.Plan.TheVariants as plans
use Rattle.replay_laws.proofs.Asked.{memory_after, span_to, next_to, served_ask, served_turn}

-- ---- the events

both_at : (a b : Bool) → elim a as (λ x. Bool) [ true ↦ b | false ↦ false ] ≡ true → b ≡ true
both_at true b e = e
both_at false b e = absurd (false≢true e)

pub warm_touch : (g : Geometry) (b a : ℕ) (es : List Event) → (word_of a == word_of b) ≡ false → warm g b (Touch a ∷ es) ≡ true → warm g b es ≡ true
warm_touch g b a es h e =
    both_at (held g (line_of g b) (Touch a ∷ es)) (warm g b es)
    (sym (ap (λ x. elim x as (λ y. Bool) [ true ↦ true | false ↦ elim (held g (line_of g b) (Touch a ∷ es)) as (λ y. Bool) [ true ↦ warm g b es | false ↦ false ] ]) h) ∙ e)

drop_at : (x b : Bool) → elim x as (λ y. Bool) [ true ↦ false | false ↦ b ] ≡ true → (x ≡ false) × (b ≡ true)
drop_at true b e = absurd (false≢true e)
drop_at false b e = (refl, e)

warm_drop : (g : Geometry) (b a : ℕ) (es : List Event) → warm g b (Drop a ∷ es) ≡ true → (b ≢ a) × (warm g b es ≡ true)
warm_drop g b a es e =
    let p : ((line_of g a == line_of g b) ≡ false) × (warm g b es ≡ true) = drop_at (line_of g a == line_of g b) (warm g b es) e in
    ((λ q. false≢true (sym p.0 ∙ eq-eqb (line_of g a) (line_of g b) (ap (line_of g) (sym q)))), p.1)

-- b is none of so many words from the first
abbrev pub Outside : ℕ → ℕ → ℕ → Type 0
Outside first zero b = Unit {0}
Outside first (suc n) b = (b ≢ first + 4 * n) × Outside first n b

warm_drops : (g : Geometry) (b a n : ℕ) (es : List Event) → warm g b (drops a n es) ≡ true → Outside a n b × (warm g b es ≡ true)
warm_drops g b a zero es e = (tt, e)
warm_drops g b a (suc n) es e =
    let p = warm_drop g b (a + 4 * n) (drops a n es) e in
    let q = warm_drops g b a n es p.1 in
    ((p.0, q.0), q.1)

-- ---- the words that are written

-- b is none of the words that a span writes
abbrev pub Unwritten : Mode → ℕ → ℕ → ℕ → Type 0
Unwritten Read first n b = Unit {0}
Unwritten Write first n b = Outside first n b

abbrev pub Spared : Option Span → ℕ → Type 0
Spared None b = Unit {0}
Spared (Some s) b = Unwritten s.mode s.first s.count b

dropped_mode : (x : Mode) (g : Geometry) (first n b : ℕ) (es : List Event) → warm g b (dropped (record { first = first; count = n; mode = x }) es) ≡ true
    → Unwritten x first n b × (warm g b es ≡ true)
dropped_mode Read g first n b es e = (tt, e)
dropped_mode Write g first n b es e = warm_drops g b first n es e

pub warm_dropped : (g : Geometry) (s : Span) (b : ℕ) (es : List Event) → warm g b (dropped s es) ≡ true → Unwritten s.mode s.first s.count b × (warm g b es ≡ true)
warm_dropped g s b es e = dropped_mode s.mode g s.first s.count b es e

-- a word that is warm in another hart's cache was warm before, and wasn't written
warm_other : (g : Geometry) (o : Option Span) (b : ℕ) (es : List Event) → warm g b (other_events o es) ≡ true → Spared o b × (warm g b es ≡ true)
warm_other g None b es e = (tt, e)
warm_other g (Some s) b es e = warm_dropped g s b es e

updated_other : (k v : ℕ) (m : ℕ → ℕ) (b : ℕ) → b ≢ k → updated k v m b ≡ m b
updated_other k v m b h = ap (λ x. cond x v (m b)) (ne_eqb b k h)

-- a word that wasn't written is as it was
one_spared : (first b : ℕ) → Outside first 1 b → b ≢ first
one_spared first b o = λ q. o.0 (omega (arith, q))

spared_sc : (x : Bool) (m : Machine) (h a v b : ℕ) → Spared (sc_span (answer_sc x a v h m).reply a) b → (answer_sc x a v h m).machine.memory b ≡ m.memory b
spared_sc true m h a v b p = updated_other a v m.memory b (one_spared a b p)
spared_sc false m h a v b p = refl

outside_at : (n first b t : ℕ) → Outside first n b → t < n → b ≢ first + 4 * t
outside_at zero first b t o h = absurd (omega arith)
outside_at (suc n) first b t o h = elim (eqb_tells t n) [
  | inl p ↦ (λ q. o.0 (let e : t ≡ n = p.1 in omega (arith, q, e)))
  | inr p ↦ outside_at n first b t o.1 (let e : t ≢ n = p.1 in omega (arith, h, e))
]

filled_other : (a : ℕ) (vs : List ℕ) (m : ℕ → ℕ) (b : ℕ) → ((j : ℕ) → j < length vs → b ≢ aligned (a + j)) → filled a vs m b ≡ m b
filled_other a [] m b h = refl
filled_other a (v ∷ vs) m b h =
    let first : b ≢ aligned a = λ q. h 0 (omega arith) (q ∙ ap aligned (sym (add-zero a))) in
    let rest : (j : ℕ) → j < length vs → b ≢ aligned (a + 1 + j) = λ j g q. h (suc j) (omega arith) (q ∙ ap aligned (omega arith)) in
    filled_other (a + 1) vs (put_byte a v m) b rest ∙ updated_other (aligned a) _ m b first

spared_fill : (a n : ℕ) (vs : List ℕ) (m : ℕ → ℕ) (b : ℕ) → length vs ≤ n → Outside (aligned a) (word_count a n) b → filled a vs m b ≡ m b
spared_fill a n vs m b h o = filled_other a vs m b (λ j g q. outside_at (word_count a n) (aligned a) b ((a + j) / 4 - a / 4) o (omega arith) (omega arith))

sent_memory : (x : Bool) (bytes : List ℕ) (m : Machine) → (sent x bytes m).memory ≡ m.memory
sent_memory true bytes m = refl
sent_memory false bytes m = refl

spared_call : (p : Plan) (h : ℕ) (m : Machine) (b : ℕ) → Spared (call_span p) b → (answer_call p h m).machine.memory b ≡ m.memory b
spared_call (plans.Fill a n) h m b p = spared_fill a n (take n m.input) m.memory b (simp length-take (omega arith)) p
spared_call (plans.Send t a n) h m b p = ap (λ (x : ℕ → ℕ). x b) (sent_memory (t == 1) _ _)
spared_call plan h m b p = refl

pub spared : (w : Want) (c : RawSettings) (i : Program) (m : Machine) (h : ℕ) (s : HartState) (b : ℕ) → Spared (span_to c i m h w s) b
    → memory_after c i m h w s b ≡ m.memory b
spared (Store a wd v) c i m h s b p = updated_other (aligned a) _ m.memory b (one_spared (aligned a) b p)
spared (Amo a o rd v) c i m h s b p = updated_other a _ m.memory b (one_spared a b p)
spared (StoreConditional a rd v) c i m h s b p = spared_sc (is_reserved (m.reserved h) a) m h a v b p
spared (System n args) c i m h s b p = spared_call (planned i m n args) h m b p
spared w c i m h s b p = refl

-- ---- a turn of another hart

-- each warm aligned word of hart k is known to have the value that memory has
abbrev pub Agrees : RawSettings → Run → ℕ → (ℕ → Option ℕ) → Type 0
Agrees c run k known = (b : ℕ) → aligned b ≡ b → warm (geometry_of c) b (run.events k) ≡ true → known b ≡ Some (run.machine.memory b)

other_history : (n : TurnEnd) (h k : ℕ) (call : Option Plan) (o : Option Span) (events : ℕ → List Event) → (h == k) ≡ false
    → events_after n k call o events h ≡ other_events o (events h)
other_history n h k call o events e = ap (λ x. elim x as (λ y. List Event) [ true ↦ cleared n (own_events call o (events k)) | false ↦ other_events o (events h) ]) e

-- another hart's ask without a guard keeps the agreement
pub agrees_past : (c : RawSettings) (i : Program) (run : Run) (k h : ℕ) (ask : Ask) (known : ℕ → Option ℕ) → (h == k) ≡ false → Agrees c run h known
    → Agrees c (served_ask c i run k ask) h known
agrees_past c i run k h ask known e a b own warm_now =
    let w : Want = ask.want in
    let s : HartState = ask.state in
    let o : Option Span = span_to c i run.machine k w s in
    let p : Spared o b × (warm (geometry_of c) b (run.events h) ≡ true) =
    warm_other (geometry_of c) o b (run.events h)
    (sym (ap (warm (geometry_of c) b) (other_history (next_to c i run.machine k (run.harts k) w s) h k (call_of i run.machine w) o run.events e)) ∙ warm_now) in
    a b own p.1 ∙ ap Some (sym (spared w c i run.machine k s b p.0))

pub agrees_other : (c : RawSettings) (i : Program) (run : Run) (k h : ℕ) (known : ℕ → Option ℕ) → (h == k) ≡ false → Agrees c run h known
    → Agrees c (served_turn c i run k) h known
agrees_other c i run k h known e a = agrees_past c i run k h (ask_at c i (run.harts k)) known e a
