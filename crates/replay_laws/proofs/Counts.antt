-- The counts of harts, and the harts and records after a move.
use Rattle.replay_laws.proofs.Common.{◌≡◌, ℕ, ◌+◌, ◌<◌, ◌≤◌, ◌^◌, Bool, true, false, List, [], ◌∷◌, ◌++◌, Option, None, refl, sym, ◌∙◌, ap, arith, subst, inl, inr, ◌==◌, nat_le, if◌then◌else◌, false≢true, Program, RawSettings, HartState, absorbed, count_up, Ask, Want, StoreConditional, System, Cut, Faulted, Reply, Went, Over, ExitsAloneEnd, Warm, Point, Record, Interval, Logged, puts, nothing, first, Hart, TurnEnd, GoesOn, NewInterval, Machine, answer_sc, is_reserved, Run, ask_at, by_guard, begun_anew, budget, loading, warmth, word_before, load_record, sc_record, skipped_after, point_of, hart_after, other_after, mark, reply_at}
use Rattle.replay_laws.proofs.Asked.{asking, state_after, span_to, next_at, served_turn}
use Rattle.replay_laws.proofs.Step.{of_memory}
use Rattle.replay_laws.proofs.Calls.{plan_counts}
use Rattle.replay_laws.proofs.Turns.{turn_records, end_log, own_log, foreign_log, other_log, own_hart, foreign_hart, puts_append}
use Rattle.replay_laws.proofs.Way.{Sound, Came, way}

-- a live hart's count is within the limit
pub record Fit (c : RawSettings) (t : Hart) : Type 0 where
  pub live : t.live ≡ true
  pub within : t.state.ic ≤ c.limit

-- ---- the count after a reply

Counted : HartState → HartState → Type 0
Counted s t = (s.ic ≤ t.ic) × (t.ic ≤ s.ic + 1)

counted_up : (s t : HartState) → s.ic + 1 < 2 ^ 64 → t.ic ≡ count_up s.ic → Counted s t
unfolding Counted
counted_up s t b e = (omega arith, omega arith)

sc_counts : (x : Bool) (j a rd w : ℕ) (m : Machine) (s : HartState) → (absorbed (asking (StoreConditional a rd w) s) (answer_sc x a w j m).reply).ic ≡ count_up s.ic
sc_counts true j a rd w m s = refl
sc_counts false j a rd w m s = refl

pub cut_state : (b : Bool) (s : HartState) → absorbed (asking Cut s) (if b then Over else Went) ≡ s
cut_state true s = refl
cut_state false s = refl

same_count : (s : HartState) → Counted s s
unfolding Counted
same_count s = (omega arith, omega arith)

pub memory_counts : (w : Want) (c : RawSettings) (i : Program) (m : Machine) (j : ℕ) (s : HartState) → of_memory w ≡ true → (state_after c i m j w s).ic ≡ count_up s.ic
memory_counts (StoreConditional a rd w) c i m j s e = sc_counts (is_reserved (m.reserved j) a) j a rd w m s
memory_counts (System n args) c i m j s e = absurd (false≢true e)
memory_counts Cut c i m j s e = absurd (false≢true e)
memory_counts (Faulted f y) c i m j s e = absurd (false≢true e)
memory_counts w c i m j s e = refl

want_counts : ExitsAloneEnd → (w : Want) (c : RawSettings) (i : Program) (m : Machine) (j : ℕ) (s : HartState) → s.ic + 1 < 2 ^ 64 → Counted s (state_after c i m j w s)
want_counts exits (StoreConditional a rd w) c i m j s b = counted_up s _ b (sc_counts (is_reserved (m.reserved j) a) j a rd w m s)
want_counts exits (System n args) c i m j s b = counted_up s _ b (plan_counts exits i j n args m s)
want_counts exits Cut c i m j s b = subst (Counted s) (sym (cut_state (nat_le c.limit s.ic) s)) (same_count s)
want_counts exits (Faulted f y) c i m j s b = same_count s
want_counts exits w c i m j s b = counted_up s _ b refl

-- ---- names for what hart k's turn does

abbrev pub want_at : RawSettings → Program → Run → ℕ → Want
want_at c i run k = (ask_at c i (run.harts k)).want

-- the state in which it asks, and that after the reply
abbrev pub asked_at : RawSettings → Program → Run → ℕ → HartState
asked_at c i run k = (ask_at c i (run.harts k)).state

abbrev pub next_state : RawSettings → Program → Run → ℕ → HartState
next_state c i run k = state_after c i run.machine k (want_at c i run k) (asked_at c i run k)

-- whether the word of its loading access is warm, how many are skipped after it, and that word
abbrev pub warmth_at : RawSettings → Program → Run → ℕ → Option Warm
warmth_at c i run k = warmth c (loading (want_at c i run k)) (run.events k)

abbrev pub skip_next : RawSettings → Program → Run → ℕ → ℕ
skip_next c i run k = skipped_after (warmth_at c i run k) (run.harts k).skipped

abbrev pub word_at : RawSettings → Program → Run → ℕ → ℕ
word_at c i run k = word_before run.machine.memory (loading (want_at c i run k))

abbrev pub point_at : RawSettings → Program → Run → ℕ → Option Point
point_at c i run k = point_of k (asked_at c i run k).ic run.turns (span_to c i run.machine k (want_at c i run k) (asked_at c i run k))

-- ---- moves

-- A move of hart k: a guard's, by which the hart begins its next interval in the state in which it asks; or a turn without a guard
pub data Move : Type 0 where
  Moves : (guard : Bool) → (hart : ℕ) → Move

-- the run after it
abbrev pub moved_run : RawSettings → Program → Bool → Run → ℕ → Run
moved_run c i true run k = begun_anew run k (asked_at c i run k)
moved_run c i false run k = served_turn c i run k

-- what comes next, and the hart's state then; whether a word that it loads is warm, how many are skipped, the reply, and the point
abbrev pub next_by : RawSettings → Program → Bool → Run → ℕ → TurnEnd
next_by c i true run k = by_guard
next_by c i false run k = next_at c i run k

abbrev pub state_by : RawSettings → Program → Bool → Run → ℕ → HartState
state_by c i true run k = asked_at c i run k
state_by c i false run k = next_state c i run k

abbrev pub warmth_by : RawSettings → Program → Bool → Run → ℕ → Option Warm
warmth_by c i true run k = None
warmth_by c i false run k = warmth_at c i run k

abbrev pub skip_by : RawSettings → Program → Bool → Run → ℕ → ℕ
skip_by c i guard run k = skipped_after (warmth_by c i guard run k) (run.harts k).skipped

abbrev pub reply_by : RawSettings → Program → Bool → Run → ℕ → Reply
reply_by c i true run k = Went
reply_by c i false run k = reply_at c i run k

abbrev pub point_by : RawSettings → Program → Bool → Run → ℕ → Option Point
point_by c i true run k = None
point_by c i false run k = point_at c i run k

-- its records
abbrev pub added : RawSettings → Program → Bool → Run → ℕ → List Record
added c i guard run k =
    turn_records k (point_by c i guard run k) run.points (warmth_by c i guard run k) (run.harts k).skipped (word_at c i run k) (reply_by c i guard run k) (next_by c i guard run k) (run.harts k).number
    (state_by c i guard run k) c.harts run.harts

-- the records of a list of moves
abbrev pub served_records : RawSettings → Program → Run → List Move → List Record
served_records c i run [] = []
served_records c i run (Moves guard k ∷ ks) = added c i guard run k ++ served_records c i (moved_run c i guard run k) ks

-- what they say to h
abbrev pub log_from : RawSettings → Program → Run → List Move → ℕ → Logged
log_from c i run ks h = puts h (served_records c i run ks) nothing

-- ---- h's own move

pub own_turn_log : (c : RawSettings) (i : Program) (guard : Bool) (run : Run) (ks : List Move) (h : ℕ)
    → log_from c i run (Moves guard h ∷ ks) h ≡ puts h (load_record (warmth_by c i guard run h) h (run.harts h).skipped (word_at c i run h))
    (puts h (sc_record (reply_by c i guard run h) h) (end_log (next_by c i guard run h) (state_by c i guard run h) (log_from c i (moved_run c i guard run h) ks h)))
own_turn_log c i guard run ks h =
    puts_append h (added c i guard run h) (served_records c i (moved_run c i guard run h) ks) nothing
    ∙ own_log h (point_by c i guard run h) run.points (warmth_by c i guard run h) (run.harts h).skipped (word_at c i run h) (reply_by c i guard run h) (next_by c i guard run h) (run.harts h).number
    (state_by c i guard run h) c.harts run.harts (log_from c i (moved_run c i guard run h) ks h)

cut_next : (c : RawSettings) (i : Program) (m : Machine) (j : ℕ) (w : Want) (s : HartState) → w ≡ Cut → state_after c i m j w s ≡ s
cut_next c i m j w s e = subst (λ (x : Want). state_after c i m j x s ≡ s) (sym e) (cut_state (nat_le c.limit s.ic) s)

abbrev no_interval : HartState → Interval
no_interval s = record { start = s; loads = []; conditionals = []; mark = mark 0 0 0 }

pub own_came : (c : RawSettings) (i : Program) (t : Hart) (h : ℕ) → Sound c i → Fit c t
    → Came i t.state.ic (budget c t) (ask_at c i t) × (t.state.ic ≤ (ask_at c i t).state.ic)
own_came c i t h z f =
    let r = way c i h (no_interval t.state) (budget c t) (first (no_interval t.state)) z (omega (arith, f.within, z.limit)) in
    (r.1, r.0.from)

bounds_by : (c : RawSettings) (i : Program) (m : Machine) (t : Hart) (h : ℕ) (w : Want) (s : HartState) → Sound c i → Fit c t → t.state.ic ≤ s.ic
    → Came i t.state.ic (budget c t) (asking w s) → (t.state.ic ≤ (state_after c i m h w s).ic) × ((state_after c i m h w s).ic ≤ c.limit)
unfolding Counted
bounds_by c i m t h w s z f g (inl p) =
    let e : (state_after c i m h w s).ic ≡ s.ic = ap (λ (x : HartState). x.ic) (cut_next c i m h w s p.0) in
    (omega (arith, e, g), omega (arith, f.within, e, p.1))
bounds_by c i m t h w s z f g (inr p) =
    let e : Counted s (state_after c i m h w s) = want_counts z.exits w c i m h s (omega (arith, f.within, z.limit, p.1)) in
    (omega (arith, e.0, g), omega (arith, f.within, e.1, p.1))

asked_within : (c : RawSettings) (i : Program) (t : Hart) (a : Ask) → Fit c t → Came i t.state.ic (budget c t) a → a.state.ic ≤ c.limit
asked_within c i t a f (inl p) = omega (arith, f.within, p.1)
asked_within c i t a f (inr p) = omega (arith, f.within, p.1)

pub own_bounds : (c : RawSettings) (i : Program) (guard : Bool) (run : Run) (h : ℕ) → Sound c i → Fit c (run.harts h)
    → ((run.harts h).state.ic ≤ (state_by c i guard run h).ic) × ((state_by c i guard run h).ic ≤ c.limit)
own_bounds c i true run h z f = let r = own_came c i (run.harts h) h z f in (r.1, asked_within c i (run.harts h) (ask_at c i (run.harts h)) f r.0)
own_bounds c i false run h z f = let r = own_came c i (run.harts h) h z f in bounds_by c i run.machine (run.harts h) h (want_at c i run h) (asked_at c i run h) z f r.1 r.0

own_is : (c : RawSettings) (i : Program) (guard : Bool) (run : Run) (h : ℕ)
    → (moved_run c i guard run h).harts h ≡ hart_after (next_by c i guard run h) (state_by c i guard run h) (skip_by c i guard run h) (moved_run c i guard run h).bytes (run.harts h)
own_is c i true run h = own_hart by_guard h (hart_after by_guard (asked_at c i run h) 0 (moved_run c i true run h).bytes (run.harts h)) run.harts
own_is c i false run h = own_hart (next_at c i run h) h (hart_after (next_at c i run h) (next_state c i run h) (skip_next c i run h) (served_turn c i run h).bytes (run.harts h)) run.harts

pub own_harts : (c : RawSettings) (i : Program) (guard : Bool) (run : Run) (h : ℕ) (n : TurnEnd) → next_by c i guard run h ≡ n
    → (moved_run c i guard run h).harts h ≡ hart_after n (state_by c i guard run h) (skip_by c i guard run h) (moved_run c i guard run h).bytes (run.harts h)
own_harts c i guard run h n e =
    own_is c i guard run h ∙ ap (λ x. hart_after x (state_by c i guard run h) (skip_by c i guard run h) (moved_run c i guard run h).bytes (run.harts h)) e

-- ---- another hart's move

pub other_turn_log : (c : RawSettings) (i : Program) (guard : Bool) (run : Run) (ks : List Move) (h k : ℕ) (n : TurnEnd) → next_by c i guard run k ≡ n → (k == h) ≡ false → (h == k) ≡ false
    → (run.harts h).live ≡ true → h < c.harts → log_from c i run (Moves guard k ∷ ks) h ≡ other_log n (run.harts h) (log_from c i (moved_run c i guard run k) ks h)
other_turn_log c i guard run ks h k n e f g live b =
    puts_append h (added c i guard run k) (served_records c i (moved_run c i guard run k) ks) nothing
    ∙ (foreign_log h k (point_by c i guard run k) run.points (warmth_by c i guard run k) (run.harts k).skipped (word_at c i run k) (reply_by c i guard run k) (next_by c i guard run k)
    (run.harts k).number (state_by c i guard run k) c.harts run.harts (log_from c i (moved_run c i guard run k) ks h) f g live b
    ∙ ap (λ x. other_log x (run.harts h) (log_from c i (moved_run c i guard run k) ks h)) e)

other_is : (c : RawSettings) (i : Program) (guard : Bool) (run : Run) (h k : ℕ) → (h == k) ≡ false → (moved_run c i guard run k).harts h ≡ other_after (next_by c i guard run k) (run.harts h)
other_is c i true run h k g = foreign_hart by_guard h k (hart_after by_guard (asked_at c i run k) 0 (moved_run c i true run k).bytes (run.harts k)) run.harts g
other_is c i false run h k g = foreign_hart (next_at c i run k) h k (hart_after (next_at c i run k) (next_state c i run k) (skip_next c i run k) (served_turn c i run k).bytes (run.harts k)) run.harts g

pub other_harts : (c : RawSettings) (i : Program) (guard : Bool) (run : Run) (h k : ℕ) (n : TurnEnd) → next_by c i guard run k ≡ n → (h == k) ≡ false
    → (moved_run c i guard run k).harts h ≡ other_after n (run.harts h)
other_harts c i guard run h k n e g = other_is c i guard run h k g ∙ ap (λ x. other_after x (run.harts h)) e

-- ---- fit harts

-- a live hart is fit after its own move if its interval continues, or the next one begins
pub own_fit : (c : RawSettings) (i : Program) (guard : Bool) (run : Run) (h : ℕ) → Sound c i → next_by c i guard run h ≡ GoesOn → Fit c (run.harts h) → Fit c ((moved_run c i guard run h).harts h)
own_fit c i guard run h z e f = subst (λ (x : Hart). Fit c x) (sym (own_harts c i guard run h GoesOn e)) (record { live = f.live; within = (own_bounds c i guard run h z f).1 })

pub begun_fit : (c : RawSettings) (i : Program) (guard : Bool) (run : Run) (h r x : ℕ) → Sound c i → next_by c i guard run h ≡ NewInterval r x → Fit c (run.harts h)
    → Fit c ((moved_run c i guard run h).harts h)
begun_fit c i guard run h r x z e f =
    subst (λ (y : Hart). Fit c y) (sym (own_harts c i guard run h (NewInterval r x) e)) (record { live = f.live; within = (own_bounds c i guard run h z f).1 })
