-- A whole turn of a hart in the replay of its interval.
use Rattle.replay_laws.proofs.Common.{◌≡◌, ℕ, suc, ◌+◌, ◌-◌, ◌<◌, ◌^◌, Bool, true, false, cond, List, [], ◌∷◌, ◌++◌, Option, Some, None, refl, sym, ◌∙◌, ap, arith, subst, inl, inr, ◌==◌, ◌⊎◌, nat_le, if◌then◌else◌, false≢true, append_assoc, append-nil, fault_number, Program, EndMark, Fault, Row, RawSettings, HartState, Asks, step, absorbed, count_up, is_cut, aligned, Want, System, Cut, Faulted, Reply, Went, Over, Plan, Event, geometry_of, warm, known, fault_row, Interval, Position, Logged, puts, steps, onto, Done, Hart, TurnEnd, GoesOn, NewInterval, HartOver, Machine, answer_call, call_of, planned, counted, next_of, after_call, warmth, word_before, load_record, loading, sc_record, skipped_after, want_rows, learned}
use Rattle.replay_laws.proofs.Asked.{asking, reply_to, state_after, memory_after, next_to, touched_to}
use Rattle.replay_laws.proofs.Calls.{Fine, Plain, call_step, plan_kind, plan_counts}
use Rattle.replay_laws.proofs.Counts.{memory_counts}
use Rattle.replay_laws.proofs.Ends.{none_left, plain_marked, fault_marked}
use Rattle.replay_laws.proofs.Places.{Ahead}
use Rattle.replay_laws.proofs.Step.{StillHolds, Stepped, Before, memory_step, of_memory}
use Rattle.replay_laws.proofs.Turns.{ended_at, end_log}
use Rattle.replay_laws.proofs.Way.{Sound, Way, moved}

-- from p the replay has gone through a turn, with rows rs, to state t; the word at tc was touched, and m2 is the memory
-- after the turn
pub record Turned (i : Program) (h : ℕ) (v : Interval) (p : Position) (t : HartState) (rs : List Row) (tc : Option ℕ) (m2 : ℕ → ℕ) (sk : ℕ) (n : TurnEnd) (l : Logged) : Type 0 where
  pub next : Position
  pub on : (m : ℕ) → steps i h v (t.ic - p.state.ic + m) p ≡ steps i h v m next
  pub state : next.state ≡ t
  pub rows : (more : List Row) → onto next.rows more ≡ onto p.rows (rs ++ more)
  pub words : (b : ℕ) → known b next.rows ≡ learned tc m2 (λ a. known a p.rows) b
  pub held : StillHolds v sk (end_log n t l) next.loads next.conditionals
  pub fine : Fine n next.called

learned_same : (tc : Option ℕ) (m2 : ℕ → ℕ) (f g : ℕ → Option ℕ) (b : ℕ) → f b ≡ g b → learned tc m2 f b ≡ learned tc m2 g b
learned_same None m2 f g b e = e
learned_same (Some a) m2 f g b e = ap (λ x. cond (b == a) (Some (m2 a)) x) e

-- the way to an ask, and its step
join : (i : Program) (h : ℕ) (v : Interval) (p : Position) (s : HartState) (qs : List Row) (w : Want) (m m2 : ℕ → ℕ) (r : Reply) (tc : Option ℕ) (sk : ℕ) (n : TurnEnd)
    (l : Logged) (wy : Way i h v p s qs) (st : Stepped i h v (moved p s wy.rows_now wy.called_now) w m m2 r tc sk (end_log n (absorbed (asking w s) r) l))
    → (absorbed (asking w s) r).ic ≡ s.ic + 1 → Fine n st.next.called
    → Turned i h v p (absorbed (asking w s) r) (qs ++ want_rows h i m w s (absorbed (asking w s) r) r) tc m2 sk n l
join i h v p s qs w m m2 r tc sk n l wy st up fine =
    let t : HartState = absorbed (asking w s) r in
    let ws : List Row = want_rows h i m w s t r in
    record {
      next = st.next;
      on = λ z. (let c : t.ic - p.state.ic + z ≡ s.ic - p.state.ic + suc z = omega (arith, up, wy.from) in ap (λ x. steps i h v x p) c ∙ (wy.walks (suc z) ∙ st.on z));
      state = st.state;
      rows = λ more. st.rows more ∙ (wy.rows (ws ++ more) ∙ ap (λ x. onto p.rows x) (sym (append_assoc qs ws more)));
      words = λ b. st.words b ∙ learned_same tc m2 (λ a. known a wy.rows_now) (λ a. known a p.rows) b (wy.words b);
      held = st.held;
      fine = fine;
    }

counted_fine_if : (x y b : Bool) → Fine (elim x as (λ z. TurnEnd) [ true ↦ HartOver 7 0 | false ↦ elim y as (λ z. TurnEnd) [ true ↦ NewInterval 1 0 | false ↦ GoesOn ] ]) b
counted_fine_if true y b = (refl, refl)
counted_fine_if false true b = (refl, refl)
counted_fine_if false false b = tt

counted_fine : (c : RawSettings) (t : Hart) (ic : ℕ) (b : Bool) → Fine (counted c t ic) b
counted_fine c t ic b = counted_fine_if (nat_le c.limit ic) (nat_le c.interval (ic - t.begun)) b

memory_next : (w : Want) (c : RawSettings) (i : Program) (m : Machine) (t : Hart) (r : Reply) (ic : ℕ) → of_memory w ≡ true
    → next_of c (call_of i m w) t w r ic ≡ counted c t ic
memory_next (System n args) c i m t r ic e = absurd (false≢true e)
memory_next Cut c i m t r ic e = absurd (false≢true e)
memory_next (Faulted f y) c i m t r ic e = absurd (false≢true e)
memory_next w c i m t r ic e = refl

-- what a turn that asks w in state s does to the replay; es is the history of the hart's cache
abbrev pub Outcome : RawSettings → Program → Machine → ℕ → Hart → Want → HartState → List Event → Interval → Position → List Row → Logged → Type 0
Outcome c i m h t w s es v p qs l =
    Turned i h v p (state_after c i m h w s) (qs ++ want_rows h i m.memory w s (state_after c i m h w s) (reply_to c i m h w s)) (touched_to c i m h w s)
    (memory_after c i m h w s) (skipped_after (warmth c (loading w) es) t.skipped) (next_to c i m h t w s) l

-- what is left after it
abbrev pub left_log : RawSettings → Program → Machine → ℕ → Hart → Want → HartState → Logged → Logged
left_log c i m h t w s l = end_log (next_to c i m h t w s) (state_after c i m h w s) l

memory_turn : (w : Want) (c : RawSettings) (i : Program) (m : Machine) (h : ℕ) (t : Hart) (s : HartState) (es : List Event) (v : Interval) (p : Position) (qs : List Row)
    (l : Logged) (wy : Way i h v p s qs)
    → of_memory w ≡ true → s.ic + 1 < 2 ^ 64
    → Before i h v (moved p s wy.rows_now wy.called_now) w m.memory (reply_to c i m h w s) t.skipped es c (left_log c i m h t w s l) → Outcome c i m h t w s es v p qs l
memory_turn w c i m h t s es v p qs l wy e b o =
    let st = memory_step w c i h v (moved p s wy.rows_now wy.called_now) s m t.skipped es (left_log c i m h t w s l) e o in
    let up : (state_after c i m h w s).ic ≡ count_up s.ic = memory_counts w c i m h s e in
    let fine : Fine (next_to c i m h t w s) st.next.called =
    subst (λ (x : TurnEnd). Fine x st.next.called) (sym (memory_next w c i m t (reply_to c i m h w s) (state_after c i m h w s).ic e))
    (counted_fine c t (state_after c i m h w s).ic st.next.called) in
    join i h v p s qs w m.memory (memory_after c i m h w s) (reply_to c i m h w s) (touched_to c i m h w s) (skipped_after (warmth c (loading w) es) t.skipped)
    (next_to c i m h t w s) l wy st (omega arith) fine

-- a cut has no row
cut_turn : (b : Bool) (c : RawSettings) (i : Program) (m : Machine) (h : ℕ) (t : Hart) (s : HartState) (v : Interval) (p : Position) (qs : List Row) (l : Logged)
    → Way i h v p s qs
    → StillHolds v t.skipped (puts h (sc_record (if b then Over else Went) h)
    (end_log (counted c t (absorbed (asking Cut s) (if b then Over else Went)).ic) (absorbed (asking Cut s) (if b then Over else Went)) l)) p.loads p.conditionals
    → Turned i h v p (absorbed (asking Cut s) (if b then Over else Went)) (qs ++ []) None m.memory t.skipped (counted c t (absorbed (asking Cut s) (if b then Over else Went)).ic) l
cut_turn true c i m h t s v p qs l wy o = record {
  next = moved p s wy.rows_now wy.called_now;
  on = λ z. wy.walks z;
  state = refl;
  rows = λ more. wy.rows more ∙ ap (λ x. onto p.rows (x ++ more)) (sym (append-nil qs));
  words = λ b. wy.words b;
  held = o;
  fine = counted_fine c t s.ic wy.called_now;
}
cut_turn false c i m h t s v p qs l wy o = record {
  next = moved p s wy.rows_now wy.called_now;
  on = λ z. wy.walks z;
  state = refl;
  rows = λ more. wy.rows more ∙ ap (λ x. onto p.rows (x ++ more)) (sym (append-nil qs));
  words = λ b. wy.words b;
  held = o;
  fine = counted_fine c t s.ic wy.called_now;
}

-- the premises of a turn: how its ask came, and what holds at its start
pub record Starts (c : RawSettings) (i : Program) (m : Machine) (h : ℕ) (t : Hart) (w : Want) (s : HartState) (es : List Event) (v : Interval) (p : Position) (l : Logged) : Type 0 where
  pub came : (w ≡ Cut) ⊎ (step i s ≡ Asks w)
  pub bound : s.ic + 1 < 2 ^ 64
  pub holds : StillHolds v t.skipped
      (puts h (load_record (warmth c (loading w) es) h t.skipped (word_before m.memory (loading w)))
      (puts h (sc_record (reply_to c i m h w s) h) (left_log c i m h t w s l))) p.loads p.conditionals
  pub ahead : Ahead (skipped_after (warmth c (loading w) es) t.skipped) (left_log c i m h t w s l).loads
  pub agrees : (b : ℕ) → aligned b ≡ b → warm (geometry_of c) b es ≡ true → known b p.rows ≡ Some (m.memory b)

pub not_cut : (w : Want) (i : Program) (s : HartState) → is_cut w ≡ false → (w ≡ Cut) ⊎ (step i s ≡ Asks w) → step i s ≡ Asks w
not_cut w i s e (inl p) = absurd (false≢true (sym e ∙ ap is_cut p))
not_cut w i s e (inr p) = p

before_of : (w : Want) (c : RawSettings) (i : Program) (m : Machine) (h : ℕ) (t : Hart) (s : HartState) (es : List Event) (v : Interval) (p : Position) (qs : List Row)
    (l : Logged) (wy : Way i h v p s qs)
    → Sound c i → is_cut w ≡ false → Starts c i m h t w s es v p l
    → Before i h v (moved p s wy.rows_now wy.called_now) w m.memory (reply_to c i m h w s) t.skipped es c (left_log c i m h t w s l)
before_of w c i m h t s es v p qs l wy z e o =
    let a : step i s ≡ Asks w = not_cut w i s e o.came in
    record { asks = a; holds = o.holds; ahead = o.ahead; agrees = λ b own g. wy.words b ∙ o.agrees b own g; passing = (z.passing s w a).1 }

abbrev pub is_fault : Want → Bool
is_fault (Faulted f y) = true
is_fault k = false

pub turned : (w : Want) (c : RawSettings) (i : Program) (m : Machine) (h : ℕ) (t : Hart) (s : HartState) (es : List Event) (v : Interval) (p : Position) (qs : List Row) (l : Logged)
    → Sound c i → Way i h v p s qs → is_fault w ≡ false → Starts c i m h t w s es v p l → Outcome c i m h t w s es v p qs l
turned (System n args) c i m h t s es v p qs l z wy e o =
    let pl : Plan = planned i m n args in
    let r =
    call_step pl i h v (moved p s wy.rows_now wy.called_now) n args m t.skipped l (plan_kind z.exits i m n args) (not_cut (System n args) i s refl o.came) o.bound o.holds in
    let up : (state_after c i m h (System n args) s).ic ≡ count_up s.ic = plan_counts z.exits i h n args m s in
    join i h v p s qs (System n args) m.memory (answer_call pl h m).machine.memory (answer_call pl h m).reply None t.skipped
    (after_call pl (answer_call pl h m).reply) l wy r.0 (let b = o.bound in omega arith) r.1
turned Cut c i m h t s es v p qs l z wy e o = cut_turn (nat_le c.limit s.ic) c i m h t s v p qs l wy o.holds
turned (Faulted f y) c i m h t s es v p qs l z wy e o = absurd (false≢true (sym e))
turned w c i m h t s es v p qs l z wy e o =
    memory_turn w c i m h t s es v p qs l wy refl o.bound (before_of w c i m h t s es v p qs l wy z refl o)

-- a fault ends the interval with its row
pub fault_turn : (f : Fault) (y : ℕ) (i : Program) (h : ℕ) (t : Hart) (s : HartState) (v : Interval) (p : Position) (qs : List Row) → Way i h v p s qs
    → step i s ≡ Asks (Faulted f y) → StillHolds v t.skipped (ended_at s.ic (16 + fault_number f) y) p.loads p.conditionals
    → steps i h v (v.mark.ic - p.state.ic) p ≡ record { rows = onto p.rows (qs ++ (fault_row h i s f y ∷ [])); outcome = Done }
fault_turn f y i h t s v p qs wy e o =
    let q : Position = moved p s wy.rows_now wy.called_now in
    let z : v.mark.ic - p.state.ic ≡ s.ic - p.state.ic + 0 = ap (λ (x : EndMark). x.ic - p.state.ic) o.mark_is ∙ omega arith in
    ap (λ x. steps i h v x p) z ∙ (wy.walks 0 ∙ (fault_marked i h v q s.ic f y o.mark_is e
    (none_left h v t.skipped (ended_at s.ic (16 + fault_number f) y) q o refl refl) ∙ ap (λ x. record { rows = x; outcome = Done }) (wy.rows (fault_row h i s f y ∷ []))))

-- and any other end without one
pub end_turn : (i : Program) (h : ℕ) (v : Interval) (p : Position) (t : HartState) (rs : List Row) (tc : Option ℕ) (m2 : ℕ → ℕ) (sk : ℕ) (n : TurnEnd) (r x : ℕ) (l : Logged)
    → Turned i h v p t rs tc m2 sk n l → end_log n t l ≡ ended_at t.ic r x → ((b : Bool) → Fine n b → Plain r b)
    → steps i h v (v.mark.ic - p.state.ic) p ≡ record { rows = onto p.rows (rs ++ []); outcome = Done }
end_turn i h v p t rs tc m2 sk n r x l d e g =
    let o : StillHolds v sk (ended_at t.ic r x) d.next.loads d.next.conditionals = subst (λ (y : Logged). StillHolds v sk y d.next.loads d.next.conditionals) e d.held in
    let z : v.mark.ic - p.state.ic ≡ t.ic - p.state.ic + 0 = ap (λ (y : EndMark). y.ic - p.state.ic) o.mark_is ∙ omega arith in
    let k = g d.next.called d.fine in
    ap (λ y. steps i h v y p) z ∙ (d.on 0 ∙ (plain_marked i h v d.next t.ic r x o.mark_is k.0 k.1 (none_left h v sk (ended_at t.ic r x) d.next o refl refl) ∙ ap
    (λ y. record { rows = y; outcome = Done }) (d.rows [])))
