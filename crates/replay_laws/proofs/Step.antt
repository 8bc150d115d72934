-- One access in the replay of an interval.
use Rattle.replay_laws.proofs.Common.{◌≡◌, ℕ, suc, ◌+◌, Bool, true, false, cond, ◌&&◌, List, [], ◌∷◌, ◌++◌, length, Option, Some, None, refl, sym, ◌∙◌, ap, arith, subst, inl, inr, ◌==◌, if◌then◌else◌, false≢true, eqb-true, eq-eqb, eqb_tells, append_assoc, Program, may_load, may_store, Row, RawSettings, HartState, stored_word, amo_result, Step, Quiet, Asks, step, absorbed, passes, aligned, Ask, Want, Load, Store, LoadReserved, StoreConditional, Amo, System, Cut, Faulted, Reply, updated, Event, geometry_of, warm, Warm, FirstLoad, row_of, known, at_address, Interval, Position, Logged, Replayed, Next, put, puts, logged, logged_from, or_else, steps, ask_step, finish, onto, missing, after_ask, word_for, slot, after_sc, On, Stop, Refused, ScMissing, Machine, answer_sc, is_reserved, load_record, skipped_after, sc_record, warmth, word_before, loading, sc_span, want_rows, touched, learned, ne_eqb}
use Rattle.rv_meaning.specs.declared.amo.AmoOp.{AmoOp}
use Rattle.rv_meaning.specs.declared.asks.Reply.TheVariants as replies
use Rattle.first_load_bits.specs.declared.warm.Warm.TheVariants as answers
use Rattle.replay_laws.proofs.Asked.{asking, reply_to, memory_after, touched_to}
use Rattle.replay_laws.proofs.Own.{aligned_own, aligned_twice}
use Rattle.replay_laws.proofs.Places.{span, Ahead, span_push, logged_zero, logged_here, logged_ahead, length_push, slot_here}

-- ---- what the records hold

-- what the interval's records still hold for a position: those before it, and l for those to come
pub record StillHolds (v : Interval) (skipped : ℕ) (l : Logged) (loads conditionals : ℕ) : Type 0 where
  pub taken : List (ℕ × ℕ)
  pub loads_are : v.loads ≡ taken ++ l.loads
  pub place : loads ≡ span taken + skipped
  pub passed : List Bool
  pub conditionals_are : v.conditionals ≡ passed ++ l.conditionals
  pub slot_at : conditionals ≡ length passed
  pub mark_is : v.mark ≡ l.mark

-- before l, a first load
abbrev pub with_load : ℕ → ℕ → Logged → Logged
with_load skip x l = record { loads = (skip, x) ∷ l.loads; conditionals = l.conditionals; mark = l.mark }

pub put_load : (h skip x : ℕ) (l : Logged) → put h (FirstLoad h skip x) l ≡ with_load skip x l
put_load h skip x l = ap (λ b. elim b as (λ y. Logged) [ true ↦ with_load skip x l | false ↦ l ]) (eq-eqb h h refl)

-- the word that a loading access takes, and what is held after it
record Takes (v : Interval) (skipped : ℕ) (l : Logged) (loads conditionals : ℕ) (kn : Option ℕ) (x : ℕ) : Type 0 where
  word : or_else (logged v.loads loads) kn ≡ Some x
  held : StillHolds v skipped l (loads + 1) conditionals

cold : (v : Interval) (h s x : ℕ) (l : Logged) (loads conditionals : ℕ) (kn : Option ℕ) → StillHolds v s (put h (FirstLoad h s x) l) loads conditionals
    → Takes v 0 l loads conditionals kn x
cold v h s x l loads conditionals kn o =
    let g : StillHolds v s (with_load s x l) loads conditionals = subst (λ (y : Logged). StillHolds v s y loads conditionals) (put_load h s x l) o in
    let here : logged v.loads loads ≡ Some x =
    ap (λ y. logged_from 0 y loads) g.loads_are
    ∙ (logged_zero g.taken ((s, x) ∷ l.loads) loads (omega (arith, g.place))
    ∙ (ap (λ k. logged_from (span g.taken) ((s, x) ∷ l.loads) k) g.place
    ∙ logged_here (span g.taken) s x l.loads)) in
    record {
      word = ap (λ y. or_else y kn) here;
      held = record {
        taken = g.taken ++ (s, x) ∷ [];
        loads_are = g.loads_are ∙ sym (append_assoc g.taken ((s, x) ∷ []) l.loads);
        place = omega (arith, g.place, span_push g.taken s x);
        passed = g.passed;
        conditionals_are = g.conditionals_are;
        slot_at = g.slot_at;
        mark_is = g.mark_is;
      };
    }

warmed : (v : Interval) (s x : ℕ) (l : Logged) (loads conditionals : ℕ) (kn : Option ℕ) → StillHolds v s l loads conditionals → Ahead (s + 1) l.loads → kn ≡ Some x
    → Takes v (s + 1) l loads conditionals kn x
warmed v s x l loads conditionals kn g a e =
    let none : logged v.loads loads ≡ None =
    ap (λ y. logged_from 0 y loads) g.loads_are
    ∙ (logged_zero g.taken l.loads loads (omega (arith, g.place))
    ∙ (ap (λ k. logged_from (span g.taken) l.loads k) g.place
    ∙ logged_ahead l.loads (span g.taken) s (s + 1) (omega arith) a)) in
    record {
      word = ap (λ y. or_else y kn) none ∙ e;
      held = record {
        taken = g.taken;
        loads_are = g.loads_are;
        place = omega (arith, g.place);
        passed = g.passed;
        conditionals_are = g.conditionals_are;
        slot_at = g.slot_at;
        mark_is = g.mark_is;
      };
    }

-- whether a word is warm, as an answer
abbrev warmth_if : Bool → Option Warm
warmth_if b = Some (if b then answers.Warm else answers.Cold)

takes_if : (b : Bool) (v : Interval) (h s x : ℕ) (l : Logged) (loads conditionals : ℕ) (kn : Option ℕ)
    → StillHolds v s (puts h (load_record (warmth_if b) h s x) l) loads conditionals → Ahead (skipped_after (warmth_if b) s) l.loads → (b ≡ true → kn ≡ Some x)
    → Takes v (skipped_after (warmth_if b) s) l loads conditionals kn x
takes_if true v h s x l loads conditionals kn g a e = warmed v s x l loads conditionals kn g a (e refl)
takes_if false v h s x l loads conditionals kn g a e = cold v h s x l loads conditionals kn g

-- a loading access at word b
takes : (v : Interval) (h b s : ℕ) (es : List Event) (c : RawSettings) (m : ℕ → ℕ) (l : Logged) (loads conditionals : ℕ) (kn : Option ℕ)
    → StillHolds v s (puts h (load_record (warmth c (Some b) es) h s (m b)) l) loads conditionals → Ahead (skipped_after (warmth c (Some b) es) s) l.loads
    → (warm (geometry_of c) b es ≡ true → kn ≡ Some (m b)) → Takes v (skipped_after (warmth c (Some b) es) s) l loads conditionals kn (m b)
takes v h b s es c m l loads conditionals kn g a e = takes_if (warm (geometry_of c) b es) v h s (m b) l loads conditionals kn g a e

-- ---- words known after a row

flip : (a b : ℕ) → (a == b) ≡ (b == a)
flip a b = elim (eqb_tells a b) [ inl p ↦ p.0 ∙ sym (eq-eqb b a (sym p.1)) | inr p ↦ p.0 ∙ sym (ne_eqb b a (λ q. p.1 (sym q))) ]

elim_cond : (x : Bool) (u w : Option ℕ) → elim x as (λ y. Option ℕ) [ true ↦ u | false ↦ w ] ≡ cond x u w
elim_cond true u w = refl
elim_cond false u w = refl

cond_twice : (x : Bool) (u w z : Option ℕ) → cond x u (cond x w z) ≡ cond x u z
cond_twice true u w z = refl
cond_twice false u w z = refl

learn : (a w x b : ℕ) (rest : Option ℕ) → aligned a ≡ w → at_address b (Some (a, x)) rest ≡ cond (b == w) (Some x) rest
learn a w x b rest e = ap (λ (y : Bool). elim y as (λ z. Option ℕ) [ true ↦ Some x | false ↦ rest ]) (ap (λ y. y == b) e ∙ flip w b) ∙ elim_cond (b == w) (Some x) rest

at_own : (w x : ℕ) (m : ℕ → ℕ) → updated w x m w ≡ x
at_own w x m = ap (λ y. cond y x (m w)) (eq-eqb w w refl)

learn_store : (a w x b : ℕ) (m : ℕ → ℕ) (rest : Option ℕ) → aligned a ≡ w → at_address b (Some (a, x)) rest ≡ cond (b == w) (Some (updated w x m w)) rest
learn_store a w x b m rest e = learn a w x b rest e ∙ ap (λ y. cond (b == w) (Some y) rest) (sym (at_own w x m))

learn_both : (a w x y b : ℕ) (m : ℕ → ℕ) (rest : Option ℕ) → aligned a ≡ w
    → at_address b (Some (a, y)) (at_address b (Some (a, x)) rest) ≡ cond (b == w) (Some (updated w y m w)) rest
learn_both a w x y b m rest e =
    learn_store a w y b m (at_address b (Some (a, x)) rest) e
    ∙ (ap (λ z. cond (b == w) (Some (updated w y m w)) z) (learn a w x b rest e) ∙ cond_twice (b == w) (Some (updated w y m w)) (Some x) rest)

-- ---- a step

-- the step at p, by what its next instruction is
abbrev step_by : Program → ℕ → Interval → Position → Step → Next
step_by i h v p x = elim x [
  | Quiet u ↦ On (record { state = u; loads = p.loads; conditionals = p.conditionals; rows = row_of h i p.state u None None ∷ p.rows; called = false })
  | Asks k ↦ ask_step i h v p k
]

-- and what follows it
abbrev steps_by : Program → ℕ → Interval → Position → ℕ → Next → Replayed
steps_by i h v p n y = elim y [ On z ↦ steps i h v n z | Stop o ↦ finish p.rows o ]

pub ask_goes : (i : Program) (h : ℕ) (v : Interval) (p q : Position) (k : Want) (n : ℕ) → step i p.state ≡ Asks k → ask_step i h v p k ≡ On q
    → steps i h v (suc n) p ≡ steps i h v n q
ask_goes i h v p q k n e f = ap (λ x. steps_by i h v p n (step_by i h v p x)) e ∙ ap (steps_by i h v p n) f

-- the replay does the ask w of q, whose reply is r; the word at t is touched, and m2 is the memory after it
pub record Stepped (i : Program) (h : ℕ) (v : Interval) (q : Position) (w : Want) (m m2 : ℕ → ℕ) (r : Reply) (t : Option ℕ) (skipped : ℕ) (l : Logged) : Type 0 where
  pub next : Position
  pub on : (n : ℕ) → steps i h v (suc n) q ≡ steps i h v n next
  pub state : next.state ≡ absorbed (asking w q.state) r
  pub rows : (more : List Row) → onto next.rows more ≡ onto q.rows (want_rows h i m w q.state (absorbed (asking w q.state) r) r ++ more)
  pub words : (b : ℕ) → known b next.rows ≡ learned t m2 (λ a. known a q.rows) b
  pub held : StillHolds v skipped l next.loads next.conditionals

-- the premises of a step: s accesses were skipped, es is the cache's history
pub record Before (i : Program) (h : ℕ) (v : Interval) (q : Position) (w : Want) (m : ℕ → ℕ) (r : Reply) (s : ℕ) (es : List Event) (c : RawSettings) (l : Logged) : Type 0 where
  pub asks : step i q.state ≡ Asks w
  pub holds : StillHolds v s (puts h (load_record (warmth c (loading w) es) h s (word_before m (loading w))) (puts h (sc_record r h) l)) q.loads q.conditionals
  pub ahead : Ahead (skipped_after (warmth c (loading w) es) s) l.loads
  pub agrees : (b : ℕ) → aligned b ≡ b → warm (geometry_of c) b es ≡ true → known b q.rows ≡ Some (m b)
  pub passing : passes i w ≡ true

load_step : (i : Program) (h : ℕ) (v : Interval) (q : Position) (a wd : ℕ) (g : Bool) (rd : ℕ) (m : ℕ → ℕ) (s : ℕ) (es : List Event) (c : RawSettings) (l : Logged)
    → Before i h v q (Load a wd g rd) m (replies.Word (m (aligned a))) s es c l
    → Stepped i h v q (Load a wd g rd) m m (replies.Word (m (aligned a))) (Some (aligned a)) (skipped_after (warmth c (Some (aligned a)) es) s) l
load_step i h v q a wd g rd m s es c l b =
    let w : Want = Load a wd g rd in
    let ask : Ask = asking w q.state in
    let x : ℕ = m (aligned a) in
    let k : Takes v (skipped_after (warmth c (Some (aligned a)) es) s) l q.loads q.conditionals (known (aligned a) q.rows) x =
    takes v h (aligned a) s es c m l q.loads q.conditionals (known (aligned a) q.rows) b.holds b.ahead (b.agrees (aligned a) (aligned_twice a)) in
    let nx : Position =
    record {
      state = absorbed ask (replies.Word x);
      loads = q.loads + 1;
      conditionals = q.conditionals;
      rows = row_of h i q.state (absorbed ask (replies.Word x))
          (Some (a, x)) None ∷ q.rows;
      called = false;
    } in
    record {
      next = nx;
      on =
          λ n. ask_goes i h v q nx w n b.asks (ap (λ z. elim z as (λ y. Next) [ None ↦ missing h q a | Some u ↦ after_ask i h q ask (replies.Word u) 1 (Some (a, u)) None ]) k.word);
      state = refl;
      rows = λ more. refl;
      words = λ y. learn a (aligned a) x y (known y q.rows) refl;
      held = k.held;
    }

reserved_step : (i : Program) (h : ℕ) (v : Interval) (q : Position) (a : ℕ) (rd : ℕ) (m : ℕ → ℕ) (s : ℕ) (es : List Event) (c : RawSettings) (l : Logged)
    → Before i h v q (LoadReserved a rd) m (replies.Word (m a)) s es c l
    → Stepped i h v q (LoadReserved a rd) m m (replies.Word (m a)) (Some a) (skipped_after (warmth c (Some a) es) s) l
reserved_step i h v q a rd m s es c l b =
    let w : Want = LoadReserved a rd in
    let own : aligned a ≡ a = aligned_own a (may_load i a) b.passing in
    let k : Takes v (skipped_after (warmth c (Some a) es) s) l q.loads q.conditionals (known a q.rows) (m a) =
    takes v h a s es c m l q.loads q.conditionals (known a q.rows) b.holds b.ahead (b.agrees a own) in
    let ask : Ask = asking w q.state in
    let nx : Position =
    record {
      state = absorbed ask (replies.Word (m a));
      loads = q.loads + 1;
      conditionals = q.conditionals;
      rows = row_of h i q.state (absorbed ask (replies.Word (m a)))
          (Some (a, m a)) None ∷ q.rows;
      called = false;
    } in
    let word : word_for v q a ≡ Some (m a) = ap (λ y. or_else (logged v.loads q.loads) (known y q.rows)) own ∙ k.word in
    record {
      next = nx;
      on =
          λ n. ask_goes i h v q nx w n b.asks (ap (λ z. elim z as (λ y. Next) [ None ↦ missing h q a | Some u ↦ after_ask i h q ask (replies.Word u) 1 (Some (a, u)) None ]) word);
      state = refl;
      rows = λ more. refl;
      words = λ y. learn a a (m a) y (known y q.rows) own;
      held = k.held;
    }

amo_step : (i : Program) (h : ℕ) (v : Interval) (q : Position) (a : ℕ) (o : AmoOp) (rd w : ℕ) (m : ℕ → ℕ) (s : ℕ) (es : List Event) (c : RawSettings) (l : Logged)
    → Before i h v q (Amo a o rd w) m (replies.Word (m a)) s es c l
    → Stepped i h v q (Amo a o rd w) m (updated a (amo_result o (m a) w) m) (replies.Word (m a)) (Some a) (skipped_after (warmth c (Some a) es) s) l
amo_step i h v q a o rd w m s es c l b =
    let own : aligned a ≡ a = aligned_own a (may_load i a && may_store i a) b.passing in
    let k : Takes v (skipped_after (warmth c (Some a) es) s) l q.loads q.conditionals (known a q.rows) (m a) =
    takes v h a s es c m l q.loads q.conditionals (known a q.rows) b.holds b.ahead (b.agrees a own) in
    let ask : Ask = asking (Amo a o rd w) q.state in
    let nx : Position =
    record {
      state = absorbed ask (replies.Word (m a));
      loads = q.loads + 1;
      conditionals = q.conditionals;
      rows = row_of h i q.state (absorbed ask (replies.Word (m a)))
          (Some (a, m a)) (Some (a, amo_result o (m a) w)) ∷ q.rows;
      called = false;
    } in
    let word : word_for v q a ≡ Some (m a) = ap (λ y. or_else (logged v.loads q.loads) (known y q.rows)) own ∙ k.word in
    record {
      next = nx;
      on =
          λ n. ask_goes i h v q nx (Amo a o rd w) n b.asks
          (ap (λ z. elim z as (λ y. Next) [ None ↦ missing h q a | Some u ↦ after_ask i h q ask (replies.Word u) 1 (Some (a, u)) (Some (a, amo_result o u w)) ]) word);
      state = refl;
      rows = λ more. refl;
      words = λ y. learn_both a a (m a) (amo_result o (m a) w) y m (known y q.rows) own;
      held = k.held;
    }

-- ---- a store: of a whole word, or of a part of one

-- the word that it loads
abbrev narrow : Bool → ℕ → Option ℕ
narrow x a = elim x [ true ↦ None | false ↦ Some (aligned a) ]

record StoreDone (i : Program) (h : ℕ) (v : Interval) (q : Position) (a wd w : ℕ) (m : ℕ → ℕ) (s : ℕ) (es : List Event) (c : RawSettings) (l : Logged) (x : Bool) : Type 0 where
  next : Position
  on : ask_step i h v q (Store a wd w) ≡ On next
  state : next.state ≡ absorbed (asking (Store a wd w) q.state) replies.Stored
  rows : next.rows ≡ (row_of h i q.state (absorbed (asking (Store a wd w) q.state) replies.Stored) None (Some (a, stored_word a wd w (m (aligned a)))) ∷ q.rows)
  held : StillHolds v (skipped_after (warmth c (narrow x a) es) s) l next.loads next.conditionals

-- the step of a store by whether it is of a whole word
abbrev store_by : Program → ℕ → Interval → Position → ℕ → ℕ → ℕ → Bool → Next
store_by i h v q a wd w x = elim x [
  | true ↦ after_ask i h q (asking (Store a wd w) q.state) replies.Stored 0 None (Some (a, w))
  | false ↦ elim (word_for v q a) as (λ y. Next) [ None ↦ missing h q a | Some u ↦ after_ask i h q (asking (Store a wd w) q.state) replies.Stored 1 None (Some (a, stored_word a wd w u)) ]
]

whole_word : (a wd w old : ℕ) → (wd == 4) ≡ true → stored_word a wd w old ≡ w
whole_word a wd w old e = ap (λ (k : ℕ). stored_word a k w old) (eqb-true wd 4 e)

store_if : (x : Bool) (i : Program) (h : ℕ) (v : Interval) (q : Position) (a wd w : ℕ) (m : ℕ → ℕ) (s : ℕ) (es : List Event) (c : RawSettings) (l : Logged)
    → (wd == 4) ≡ x → StillHolds v s (puts h (load_record (warmth c (narrow x a) es) h s (word_before m (narrow x a))) l) q.loads q.conditionals
    → Ahead (skipped_after (warmth c (narrow x a) es) s) l.loads → (warm (geometry_of c) (aligned a) es ≡ true → known (aligned a) q.rows ≡ Some (m (aligned a)))
    → StoreDone i h v q a wd w m s es c l x
store_if true i h v q a wd w m s es c l e o f g =
    let t : HartState = absorbed (asking (Store a wd w) q.state) replies.Stored in
    let z : q.loads + 0 ≡ q.loads = omega arith in
    record {
      next = record { state = t; loads = q.loads + 0; conditionals = q.conditionals; rows = row_of h i q.state t None (Some (a, w)) ∷ q.rows; called = false };
      on = ap (store_by i h v q a wd w) e;
      state = refl;
      rows = ap (λ u. row_of h i q.state t None (Some (a, u)) ∷ q.rows) (sym (whole_word a wd w (m (aligned a)) e));
      held = subst (λ y. StillHolds v s l y q.conditionals) (sym z) o;
    }
store_if false i h v q a wd w m s es c l e o f g =
    let t : HartState = absorbed (asking (Store a wd w) q.state) replies.Stored in
    let k : Takes v (skipped_after (warmth c (Some (aligned a)) es) s) l q.loads q.conditionals (known (aligned a) q.rows) (m (aligned a)) =
    takes v h (aligned a) s es c m l q.loads q.conditionals (known (aligned a) q.rows) o f g in
    record {
      next =
          record { state = t; loads = q.loads + 1; conditionals = q.conditionals; rows = row_of h i q.state t None (Some (a, stored_word a wd w (m (aligned a)))) ∷ q.rows; called = false };
      on =
          ap (store_by i h v q a wd w) e
          ∙ ap (λ z. elim z as (λ y. Next) [ None ↦ missing h q a | Some u ↦ after_ask i h q (asking (Store a wd w) q.state) replies.Stored 1 None (Some (a, stored_word a wd w u)) ]) k.word;
      state = refl;
      rows = refl;
      held = k.held;
    }

store_step : (i : Program) (h : ℕ) (v : Interval) (q : Position) (a wd w : ℕ) (m : ℕ → ℕ) (s : ℕ) (es : List Event) (c : RawSettings) (l : Logged)
    → Before i h v q (Store a wd w) m replies.Stored s es c l
    → Stepped i h v q (Store a wd w) m (updated (aligned a) (stored_word a wd w (m (aligned a))) m) replies.Stored (Some (aligned a))
    (skipped_after (warmth c (loading (Store a wd w)) es) s) l
store_step i h v q a wd w m s es c l b =
    let d : StoreDone i h v q a wd w m s es c l (wd == 4) = store_if (wd == 4) i h v q a wd w m s es c l refl b.holds b.ahead (b.agrees (aligned a) (aligned_twice a)) in
    record {
      next = d.next;
      on = λ n. ask_goes i h v q d.next (Store a wd w) n b.asks d.on;
      state = d.state;
      rows = λ more. ap (λ rs. onto rs more) d.rows;
      words = λ y. ap (known y) d.rows ∙ learn_store a (aligned a) (stored_word a wd w (m (aligned a))) y m (known y q.rows) refl;
      held = d.held;
    }

-- ---- a conditional store, done or failed

-- before l, how an SC went
abbrev pub with_sc : Bool → Logged → Logged
with_sc x l = record { loads = l.loads; conditionals = x ∷ l.conditionals; mark = l.mark }

put_sc : (x : Bool) (h : ℕ) (l : Logged) → puts h (sc_record (cond x replies.ScOk replies.ScFailed) h) l ≡ with_sc x l
put_sc true h l = ap (λ b. elim b as (λ y. Logged) [ true ↦ with_sc true l | false ↦ l ]) (eq-eqb h h refl)
put_sc false h l = ap (λ b. elim b as (λ y. Logged) [ true ↦ with_sc false l | false ↦ l ]) (eq-eqb h h refl)

slot_taken : (v : Interval) (s : ℕ) (x : Bool) (l : Logged) (loads conditionals : ℕ) → StillHolds v s (with_sc x l) loads conditionals
    → (slot v.conditionals conditionals ≡ Some x) × StillHolds v s l loads (conditionals + 1)
slot_taken v s x l loads conditionals g = (
  ap (λ z. slot z conditionals) g.conditionals_are ∙ (ap (λ z. slot (g.passed ++ x ∷ l.conditionals) z) g.slot_at ∙ slot_here g.passed x l.conditionals),
  record {
    taken = g.taken;
    loads_are = g.loads_are;
    place = g.place;
    passed = g.passed ++ x ∷ [];
    conditionals_are = g.conditionals_are ∙ sym (append_assoc g.passed (x ∷ []) l.conditionals);
    slot_at = omega (arith, g.slot_at, length_push g.passed x);
    mark_is = g.mark_is;
  },
)

sc_step : (x : Bool) (i : Program) (h : ℕ) (v : Interval) (q : Position) (a rd w : ℕ) (m : Machine) (s : ℕ) (es : List Event) (c : RawSettings) (l : Logged)
    → Before i h v q (StoreConditional a rd w) m.memory (answer_sc x a w h m).reply s es c l
    → Stepped i h v q (StoreConditional a rd w) m.memory (answer_sc x a w h m).machine.memory (answer_sc x a w h m).reply (touched None (sc_span (answer_sc x a w h m).reply a)) s l
sc_step true i h v q a rd w m s es c l b =
    let own : aligned a ≡ a = aligned_own a (may_load i a && may_store i a) b.passing in
    let k = slot_taken v s true l q.loads q.conditionals (subst (λ (y : Logged). StillHolds v s y q.loads q.conditionals) (put_sc true h l) b.holds) in
    let ask : Ask = asking (StoreConditional a rd w) q.state in
    let nx : Position =
    record {
      state = absorbed ask replies.ScOk;
      loads = q.loads;
      conditionals = q.conditionals + 1;
      rows = row_of h i q.state (absorbed ask replies.ScOk) None
          (Some (a, w)) ∷ q.rows;
      called = false;
    } in
    record {
      next = nx;
      on =
          λ n. ask_goes i h v q nx (StoreConditional a rd w) n b.asks
          (ap (λ z. elim z as (λ y. Next) [ None ↦ Stop (Refused (ScMissing h q.state.ic)) | Some y ↦ after_sc i h q ask y a w ]) k.0);
      state = refl;
      rows = λ more. refl;
      words = λ y. learn_store a a w y m.memory (known y q.rows) own;
      held = k.1;
    }
sc_step false i h v q a rd w m s es c l b =
    let k = slot_taken v s false l q.loads q.conditionals (subst (λ (y : Logged). StillHolds v s y q.loads q.conditionals) (put_sc false h l) b.holds) in
    let ask : Ask = asking (StoreConditional a rd w) q.state in
    let nx : Position =
    record {
      state = absorbed ask replies.ScFailed;
      loads = q.loads;
      conditionals = q.conditionals + 1;
      rows = row_of h i q.state
          (absorbed ask replies.ScFailed) None None ∷ q.rows;
      called = false;
    } in
    record {
      next = nx;
      on =
          λ n. ask_goes i h v q nx (StoreConditional a rd w) n b.asks
          (ap (λ z. elim z as (λ y. Next) [ None ↦ Stop (Refused (ScMissing h q.state.ic)) | Some y ↦ after_sc i h q ask y a w ]) k.0);
      state = refl;
      rows = λ more. refl;
      words = λ y. refl;
      held = k.1;
    }

-- ---- asks that access memory

abbrev pub of_memory : Want → Bool
of_memory (System n args) = false
of_memory Cut = false
of_memory (Faulted f y) = false
of_memory k = true

pub memory_step : (w : Want) (c : RawSettings) (i : Program) (h : ℕ) (v : Interval) (q : Position) (t : HartState) (m : Machine) (s : ℕ) (es : List Event) (l : Logged)
    → of_memory w ≡ true → Before i h v q w m.memory (reply_to c i m h w t) s es c l
    → Stepped i h v q w m.memory (memory_after c i m h w t) (reply_to c i m h w t) (touched_to c i m h w t) (skipped_after (warmth c (loading w) es) s) l
memory_step (Load a wd g rd) c i h v q t m s es l e b = load_step i h v q a wd g rd m.memory s es c l b
memory_step (LoadReserved a rd) c i h v q t m s es l e b = reserved_step i h v q a rd m.memory s es c l b
memory_step (Store a wd w) c i h v q t m s es l e b = store_step i h v q a wd w m.memory s es c l b
memory_step (Amo a o rd w) c i h v q t m s es l e b = amo_step i h v q a o rd w m.memory s es c l b
memory_step (StoreConditional a rd w) c i h v q t m s es l e b = sc_step (is_reserved (m.reserved h) a) i h v q a rd w m s es c l b
memory_step w c i h v q t m s es l e b = absurd (false≢true e)
