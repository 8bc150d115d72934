-- Sides that tell the same have the same to come.
use Rattle.hart_replay.proofs.Common.{◌≡◌, ℕ, zero, suc, ◌+◌, ◌-◌, Bool, true, false, cond, not, Option, Some, None, List, [], ◌∷◌, take, length, slice_index, refl, sym, subst, ◌∙◌, ap, add_assoc, add-zero, ◌==◌, ◌&&◌, ◌||◌, nat_lt, fault_number, Program, EndMark, Row, HartState, stored_word, amo_result, Step, Quiet, Asks, step, absorbed, aligned, Want, Load, Store, LoadReserved, StoreConditional, Amo, System, Cut, Faulted, Reply, Word, Stored, Answer, Over, row_of, call_row, fault_row, at_address, known, RecordsLeft, EndDiffers, ScMissing, Outcome, Done, Refused, Replayed, Next, On, Stop, logged, taken_from, slot, or_else, word_for, missing, after_ask, after_sc, ask_step, one_step, left_over, found, finish, fault_end, ended, call_reason, with_rows, without_rows, to_come, Side, Alike, interval_at, position_at, later}
use Rattle.rv_meaning.specs.declared.asks.Reply.TheVariants as replies

-- ---- a side after an instruction

abbrev pub moved : Side → ℕ → Row → Side
moved a d r = record { loads = a.loads; met = a.met + d; conditionals = a.conditionals; tried = a.tried; rows = r ∷ a.rows }

abbrev pub tried_once : Side → Row → Side
tried_once a r = record { loads = a.loads; met = a.met; conditionals = a.conditionals; tried = a.tried + 1; rows = r ∷ a.rows }

abbrev pub same_place : Side → Row → Side
same_place a r = record { loads = a.loads; met = a.met; conditionals = a.conditionals; tried = a.tried; rows = r ∷ a.rows }

known_more : (r : Row) (a b : Side) → ((w : ℕ) → known (aligned w) a.rows ≡ known (aligned w) b.rows) → (w : ℕ) → known (aligned w) (r ∷ a.rows) ≡ known (aligned w) (r ∷ b.rows)
known_more r a b e w = ap (λ (o : Option ℕ). at_address (aligned w) r.store (at_address (aligned w) r.load o)) (e w)

pub moved_alike : (a b : Side) (d : ℕ) (r : Row) → Alike a b → Alike (moved a d r) (moved b d r)
moved_alike a b d r e = record {
  loads = λ k. ap (logged a.loads) (add_assoc a.met d k) ∙ e.loads (d + k) ∙ sym (ap (logged b.loads) (add_assoc b.met d k));
  loads_left = λ k. ap (λ n. length a.loads - taken_from 0 a.loads n) (add_assoc a.met d k) ∙ e.loads_left (d + k) ∙ sym (ap (λ n. length b.loads - taken_from 0 b.loads n) (add_assoc b.met d k));
  conditionals = e.conditionals;
  conditionals_left = e.conditionals_left;
  words = known_more r a b e.words;
}

pub tried_alike : (a b : Side) (r : Row) → Alike a b → Alike (tried_once a r) (tried_once b r)
tried_alike a b r e = record {
  loads = e.loads;
  loads_left = e.loads_left;
  conditionals = λ k. ap (slot a.conditionals) (add_assoc a.tried 1 k) ∙ e.conditionals (1 + k) ∙ sym (ap (slot b.conditionals) (add_assoc b.tried 1 k));
  conditionals_left = λ k. ap (λ n. length a.conditionals - n) (add_assoc a.tried 1 k) ∙ e.conditionals_left (1 + k) ∙ sym (ap (λ n. length b.conditionals - n) (add_assoc b.tried 1 k));
  words = known_more r a b e.words;
}

pub same_alike : (a b : Side) (r : Row) → Alike a b → Alike (same_place a r) (same_place b r)
same_alike a b r e = record { loads = e.loads; loads_left = e.loads_left; conditionals = e.conditionals; conditionals_left = e.conditionals_left; words = known_more r a b e.words }

-- ---- what they tell now

at_zero : {A : Type 0} (f g : ℕ → A) (m n : ℕ) → f (m + 0) ≡ g (n + 0) → f m ≡ g n
at_zero f g m n e = sym (ap f (add-zero m)) ∙ e ∙ ap g (add-zero n)

pub word_alike : (s origin t : HartState) (m : EndMark) (called : Bool) (a b : Side) (w : ℕ) → Alike a b → word_for (interval_at s m a) (position_at t called a) w ≡ word_for (interval_at origin m b) (position_at t called b) w
word_alike s origin t m called a b w e =
    ap (λ (o : Option ℕ). or_else o (known (aligned w) a.rows)) (at_zero (logged a.loads) (logged b.loads) a.met b.met (e.loads 0))
    ∙ ap (λ (o : Option ℕ). or_else (logged b.loads b.met) o) (e.words w)

slot_alike : (a b : Side) → Alike a b → slot a.conditionals a.tried ≡ slot b.conditionals b.tried
slot_alike a b e = at_zero (slot a.conditionals) (slot b.conditionals) a.tried b.tried (e.conditionals 0)

left_alike : (h : ℕ) (s origin t : HartState) (m : EndMark) (called : Bool) (a b : Side) → Alike a b
    → left_over h (interval_at s m a) (without_rows (position_at t called a)) ≡ left_over h (interval_at origin m b) (without_rows (position_at t called b))
left_alike h s origin t m called a b e =
    let loads : length a.loads - taken_from 0 a.loads a.met ≡ length b.loads - taken_from 0 b.loads b.met = at_zero (λ n. length a.loads - taken_from 0 a.loads n) (λ n. length b.loads - taken_from 0 b.loads n) a.met b.met (e.loads_left 0) in
    let conditionals : length a.conditionals - a.tried ≡ length b.conditionals - b.tried = at_zero (λ n. length a.conditionals - n) (λ n. length b.conditionals - n) a.tried b.tried (e.conditionals_left 0) in
    ap (λ (n : ℕ). elim (n + (length a.conditionals - a.tried) == 0) as (λ y. Outcome) [ true ↦ Done | false ↦ Refused (RecordsLeft h (n + (length a.conditionals - a.tried))) ]) loads
    ∙ ap (λ (n : ℕ). elim (length b.loads - taken_from 0 b.loads b.met + n == 0) as (λ y. Outcome) [ true ↦ Done | false ↦ Refused (RecordsLeft h (length b.loads - taken_from 0 b.loads b.met + n)) ]) conditionals

-- ---- the next instruction

-- both continue alike, with the same row, or both stop
abbrev pub BothGo : Side → Next → Side → Next → Type 0
BothGo a (On p) b (On q) = (p.state ≡ q.state) × (p.called ≡ q.called) × (take 1 p.rows ≡ take 1 q.rows) × Alike (later a p) (later b q)
BothGo a (On p) b (Stop o) = ⊥
BothGo a (Stop o) b (On q) = ⊥
BothGo a (Stop o) b (Stop p) = o ≡ p

module _ (i : Program) (h : ℕ) (s origin t : HartState) (m : EndMark) (called : Bool) (a b : Side) (e : Alike a b) where
  loading : (w : ℕ) (k : Want) (reply : ℕ → Reply) (load store : ℕ → Option (ℕ × ℕ)) (o u : Option ℕ) → o ≡ u
      → BothGo a (elim o as (λ y. Next) [ None ↦ missing h (position_at t called a) w | Some x ↦ after_ask i h (position_at t called a) (record { state = t; want = k }) (reply x) 1 (load x) (store x) ])
      b (elim u as (λ y. Next) [ None ↦ missing h (position_at t called b) w | Some x ↦ after_ask i h (position_at t called b) (record { state = t; want = k }) (reply x) 1 (load x) (store x) ])
  loading w k reply load store None None q = refl
  loading w k reply load store None (Some y) q = absurd (none_some q)
    where
      none_some : ◌≡◌ {A = Option ℕ} None (Some y) → ⊥
      none_some z = cc
  loading w k reply load store (Some x) None q = absurd (some_none q)
    where
      some_none : ◌≡◌ {A = Option ℕ} (Some x) None → ⊥
      some_none z = cc
  loading w k reply load store (Some x) (Some y) q =
      let same : x ≡ y = cc in
      subst (λ (z : ℕ). BothGo a (after_ask i h (position_at t called a) (record { state = t; want = k }) (reply x) 1 (load x) (store x)) b (after_ask i h (position_at t called b) (record { state = t; want = k }) (reply z) 1 (load z) (store z))) same
      (refl, refl, refl, moved_alike a b 1 (row_of h i t (absorbed (record { state = t; want = k }) (reply x)) (load x) (store x)) e)

  storing : (w y : ℕ) (k : Want) → BothGo a (after_ask i h (position_at t called a) (record { state = t; want = k }) Stored 0 None (Some (w, y))) b (after_ask i h (position_at t called b) (record { state = t; want = k }) Stored 0 None (Some (w, y)))
  storing w y k = (refl, refl, refl, moved_alike a b 0 (row_of h i t (absorbed (record { state = t; want = k }) Stored) None (Some (w, y))) e)

  trying : (w y : ℕ) (k : Want) (o u : Option Bool) → o ≡ u
      → BothGo a (elim o as (λ z. Next) [ None ↦ Stop (Refused (ScMissing h t.ic)) | Some g ↦ after_sc i h (position_at t called a) (record { state = t; want = k }) g w y ])
      b (elim u as (λ z. Next) [ None ↦ Stop (Refused (ScMissing h t.ic)) | Some g ↦ after_sc i h (position_at t called b) (record { state = t; want = k }) g w y ])
  trying w y k None None q = refl
  trying w y k None (Some g) q = absurd (none_some q)
    where
      none_some : ◌≡◌ {A = Option Bool} None (Some g) → ⊥
      none_some z = cc
  trying w y k (Some g) None q = absurd (some_none q)
    where
      some_none : ◌≡◌ {A = Option Bool} (Some g) None → ⊥
      some_none z = cc
  trying w y k (Some g) (Some f) q =
      let same : g ≡ f = cc in
      subst (λ (z : Bool). BothGo a (after_sc i h (position_at t called a) (record { state = t; want = k }) g w y) b (after_sc i h (position_at t called b) (record { state = t; want = k }) z w y)) same
      (refl, refl, refl, tried_alike a b (row_of h i t (absorbed (record { state = t; want = k }) (cond g replies.ScOk replies.ScFailed)) None (cond g (Some (w, y)) None)) e)

  calling : (x y : Bool) (r a0 : ℕ) (k : Want)
      → BothGo a (elim x as (λ z. Next) [ true ↦ elim y as (λ z. Next) [ true ↦ On (record { state = absorbed (record { state = t; want = k }) (Answer m.value); loads = a.met; conditionals = a.tried; rows = call_row h i t (Some (10, m.value)) ∷ a.rows; called = true }) | false ↦ On (record { state = absorbed (record { state = t; want = k }) Over; loads = a.met; conditionals = a.tried; rows = call_row h i t None ∷ a.rows; called = true }) ] | false ↦ Stop (Refused (EndDiffers h m (found (t.ic + 1) r a0))) ])
      b (elim x as (λ z. Next) [ true ↦ elim y as (λ z. Next) [ true ↦ On (record { state = absorbed (record { state = t; want = k }) (Answer m.value); loads = b.met; conditionals = b.tried; rows = call_row h i t (Some (10, m.value)) ∷ b.rows; called = true }) | false ↦ On (record { state = absorbed (record { state = t; want = k }) Over; loads = b.met; conditionals = b.tried; rows = call_row h i t None ∷ b.rows; called = true }) ] | false ↦ Stop (Refused (EndDiffers h m (found (t.ic + 1) r a0))) ])
  calling true true r a0 k = (refl, refl, refl, same_alike a b (call_row h i t (Some (10, m.value))) e)
  calling true false r a0 k = (refl, refl, refl, same_alike a b (call_row h i t None) e)
  calling false y r a0 k = refl

  bytes_or_word : (w width y : ℕ) (x : Bool) (o u : Option ℕ) → o ≡ u
      → BothGo a (elim x as (λ z. Next) [ true ↦ after_ask i h (position_at t called a) (record { state = t; want = Store w width y }) Stored 0 None (Some (w, y)) | false ↦ elim o as (λ z. Next) [ None ↦ missing h (position_at t called a) w | Some v ↦ after_ask i h (position_at t called a) (record { state = t; want = Store w width y }) Stored 1 None (Some (w, stored_word w width y v)) ] ])
      b (elim x as (λ z. Next) [ true ↦ after_ask i h (position_at t called b) (record { state = t; want = Store w width y }) Stored 0 None (Some (w, y)) | false ↦ elim u as (λ z. Next) [ None ↦ missing h (position_at t called b) w | Some v ↦ after_ask i h (position_at t called b) (record { state = t; want = Store w width y }) Stored 1 None (Some (w, stored_word w width y v)) ] ])
  bytes_or_word w width y true o u q = storing w y (Store w width y)
  bytes_or_word w width y false o u q = loading w (Store w width y) (λ x. Stored) (λ x. None) (λ x. Some (w, stored_word w width y x)) o u q

  asking : (k : Want) → BothGo a (ask_step i h (interval_at s m a) (position_at t called a) k) b (ask_step i h (interval_at origin m b) (position_at t called b) k)
  asking (Load w width g rd) = loading w (Load w width g rd) Word (λ x. Some (w, x)) (λ x. None) _ _ (word_alike s origin t m called a b w e)
  asking (LoadReserved w rd) = loading w (LoadReserved w rd) Word (λ x. Some (w, x)) (λ x. None) _ _ (word_alike s origin t m called a b w e)
  asking (Amo w o rd y) = loading w (Amo w o rd y) Word (λ x. Some (w, x)) (λ x. Some (w, amo_result o x y)) _ _ (word_alike s origin t m called a b w e)
  asking (Store w width y) = bytes_or_word w width y (width == 4) _ _ (word_alike s origin t m called a b w e)
  asking (StoreConditional w rd y) = trying w y (StoreConditional w rd y) _ _ (slot_alike a b e)
  asking (System n args) =
      let reason = call_reason n in
      let value : ℕ = elim (reason == 2) [ true ↦ 0 | false ↦ slice_index args 0 ] in
      calling (t.ic + 1 == m.ic && (reason == m.reason) && ((reason == 2) || (value == m.value))) (reason == 2) reason value (System n args)
  asking Cut = refl
  asking (Faulted f y) = refl

  stepping : BothGo a (one_step i h (interval_at s m a) (position_at t called a)) b (one_step i h (interval_at origin m b) (position_at t called b))
  stepping = by_step (step i t)
    where
      by_step : (x : Step) → BothGo a (elim x as (λ y. Next) [ Quiet u ↦ On (record { state = u; loads = a.met; conditionals = a.tried; rows = row_of h i t u None None ∷ a.rows; called = false }) | Asks k ↦ ask_step i h (interval_at s m a) (position_at t called a) k ])
          b (elim x as (λ y. Next) [ Quiet u ↦ On (record { state = u; loads = b.met; conditionals = b.tried; rows = row_of h i t u None None ∷ b.rows; called = false }) | Asks k ↦ ask_step i h (interval_at origin m b) (position_at t called b) k ])
      by_step (Quiet u) = (refl, refl, refl, same_alike a b (row_of h i t u None None) e)
      by_step (Asks k) = asking k

-- ---- the end

ending : (i : Program) (h : ℕ) (s origin t : HartState) (m : EndMark) (called : Bool) (a b : Side) → Alike a b
    → ended i h (interval_at s m a) (without_rows (position_at t called a)) ≡ ended i h (interval_at origin m b) (without_rows (position_at t called b))
ending i h s origin t m called a b e = by_reason (nat_lt 16 m.reason) (step i t) ((m.reason == 2 || (m.reason == 3) || (m.reason == 4)) && not called)
  where
    left : left_over h (interval_at s m a) (without_rows (position_at t called a)) ≡ left_over h (interval_at origin m b) (without_rows (position_at t called b))
    left = left_alike h s origin t m called a b e

    by_want : (k : Want) → fault_end i h (interval_at s m a) (without_rows (position_at t called a)) k ≡ fault_end i h (interval_at origin m b) (without_rows (position_at t called b)) k
    by_want (Load w width g rd) = refl
    by_want (LoadReserved w rd) = refl
    by_want (Amo w o rd y) = refl
    by_want (Store w width y) = refl
    by_want (StoreConditional w rd y) = refl
    by_want (System n args) = refl
    by_want Cut = refl
    by_want (Faulted f y) =
        ap (λ (o : Outcome). elim (16 + fault_number f == m.reason && (y == m.value)) as (λ u. Replayed) [ true ↦ finish (fault_row h i t f y ∷ []) o | false ↦ finish [] (Refused (EndDiffers h m (found t.ic (16 + fault_number f) y))) ]) left

    by_reason : (x : Bool) (y : Step) (z : Bool)
        → elim x as (λ u. Replayed) [ true ↦ elim y as (λ u. Replayed) [ Quiet u ↦ finish [] (Refused (EndDiffers h m (found t.ic 1 0))) | Asks k ↦ fault_end i h (interval_at s m a) (without_rows (position_at t called a)) k ] | false ↦ elim z as (λ u. Replayed) [ true ↦ finish [] (Refused (EndDiffers h m (found t.ic 1 0))) | false ↦ finish [] (left_over h (interval_at s m a) (without_rows (position_at t called a))) ] ]
        ≡ elim x as (λ u. Replayed) [ true ↦ elim y as (λ u. Replayed) [ Quiet u ↦ finish [] (Refused (EndDiffers h m (found t.ic 1 0))) | Asks k ↦ fault_end i h (interval_at origin m b) (without_rows (position_at t called b)) k ] | false ↦ elim z as (λ u. Replayed) [ true ↦ finish [] (Refused (EndDiffers h m (found t.ic 1 0))) | false ↦ finish [] (left_over h (interval_at origin m b) (without_rows (position_at t called b))) ] ]
    by_reason true (Quiet u) z = refl
    by_reason true (Asks k) z = by_want k
    by_reason false y true = refl
    by_reason false y false = ap (finish []) left

-- ---- all that is to come

-- the rest, if both continue or both stop
both : (i : Program) (h n : ℕ) (s origin : HartState) (m : EndMark) (a b : Side) (x y : Next) → BothGo a x b y
    → ((t : HartState) (called : Bool) (c d : Side) → Alike c d → to_come i h (interval_at s m c) n (position_at t called c) ≡ to_come i h (interval_at origin m d) n (position_at t called d))
    → elim x as (λ u. Replayed) [ On q ↦ with_rows (take 1 q.rows) (to_come i h (interval_at s m a) n q) | Stop o ↦ record { rows = []; outcome = o } ]
    ≡ elim y as (λ u. Replayed) [ On q ↦ with_rows (take 1 q.rows) (to_come i h (interval_at origin m b) n q) | Stop o ↦ record { rows = []; outcome = o } ]
both i h n s origin m a b (On p) (On q) e rest =
    ap (λ (rs : List Row). with_rows rs (to_come i h (interval_at s m a) n p)) e.2
    ∙ ap (with_rows (take 1 q.rows)) (rest p.state p.called (later a p) (later b q) e.3
    ∙ ap (λ (t : HartState). to_come i h (interval_at origin m b) n (record { state = t; loads = q.loads; conditionals = q.conditionals; rows = q.rows; called = p.called })) e.0
    ∙ ap (λ (called : Bool). to_come i h (interval_at origin m b) n (record { state = q.state; loads = q.loads; conditionals = q.conditionals; rows = q.rows; called = called })) e.1)
both i h n s origin m a b (On p) (Stop o) e rest = absurd e
both i h n s origin m a b (Stop o) (On q) e rest = absurd e
both i h n s origin m a b (Stop o) (Stop p) e rest = ap (λ (o : Outcome). record { rows = []; outcome = o }) e

pub coming_alike : (i : Program) (h n : ℕ) (s origin t : HartState) (m : EndMark) (called : Bool) (a b : Side) → Alike a b
    → to_come i h (interval_at s m a) n (position_at t called a) ≡ to_come i h (interval_at origin m b) n (position_at t called b)
coming_alike i h zero s origin t m called a b e = ending i h s origin t m called a b e
coming_alike i h (suc n) s origin t m called a b e = both i h n s origin m a b _ _ (stepping i h s origin t m called a b e) (λ u called c d f. coming_alike i h n s origin u m called c d f)
