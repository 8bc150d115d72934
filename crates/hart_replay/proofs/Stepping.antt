-- What is to come before and after a step, and the state by the rows.
use Rattle.hart_replay.proofs.Common.{◌≡◌, ℕ, zero, suc, ◌+◌, ◌-◌, ◌^◌, ◌<◌, Bool, true, false, cond, Option, Some, None, List, [], ◌∷◌, ◌++◌, take, slice_index, refl, sym, subst, ◌∙◌, ap, arith, ◌==◌, ◌&&◌, ◌||◌, not, nat_lt, fault_number, Fault, Program, EndMark, Row, HartState, stored_word, amo_result, Step, Quiet, Asks, step, absorbed, count_up, Want, Load, Store, LoadReserved, StoreConditional, Amo, System, Cut, Faulted, Reply, Word, Stored, Answer, Over, row_of, call_row, fault_row, EndDiffers, ScMissing, Outcome, Refused, Replayed, Interval, Position, Next, On, Stop, missing, after_ask, after_sc, ask_step, one_step, found, call_reason, steps, finish, onto, left_over, fault_end, ended, first, interval_from, Logged, puts, nothing, interval_of, replayed_in, CacheOf, after_row, reply_in, with_rows, without_rows, to_come, outcome_only, Replaying, Begins, a_word_comes, Side, Goes, interval_at, position_at, later, side, side_to_come, left_by, KeepsWord, Does, Result, Ok, Err, drop, ◌⊎◌, inl, inr, Record, IntervalCursor, ReplayError, OutOfMemory, Pending, loads_in, conditionals_in, mark_in, Frame, word_at, side_of}
use Rattle.rv_meaning.specs.declared.asks.Reply.TheVariants as replies
use Rattle.hart_replay.specs.declared.header.IntervalStart.{IntervalStart}
use Rattle.hart_replay.proofs.Alike.{coming_alike}
use Rattle.hart_replay.proofs.KnownRows.{known_none}

-- ---- what is to come

went : (i : Program) (h n : ℕ) (s : HartState) (m : EndMark) (a : Side) (x : Next) (row : Row) (t : HartState) (called : Bool) (b : Side) → Goes a x row t called b
    → elim x as (λ u. Replayed) [ On q ↦ with_rows (take 1 q.rows) (to_come i h (interval_at s m a) n q) | Stop o ↦ record { rows = []; outcome = o } ]
    ≡ with_rows (row ∷ []) (to_come i h (interval_at t m b) n (position_at t called b))
went i h n s m a (Stop o) row t called b g = absurd g
went i h n s m a (On q) row t called b g =
    ap (λ (rs : List Row). with_rows rs (to_come i h (interval_at s m a) n q)) g.2
    ∙ ap (with_rows (row ∷ [])) (coming_alike i h n s t q.state m q.called (later a q) b g.3
    ∙ ap (λ (u : HartState). to_come i h (interval_at t m b) n (position_at u q.called b)) g.0
    ∙ ap (λ (c : Bool). to_come i h (interval_at t m b) n (position_at t c b)) g.1)

-- after an instruction its row is gone from what is to come
pub gone_on : (i : Program) (h : ℕ) (m : EndMark) (s : HartState) (c : Bool) (a : Side) (row : Row) (t : HartState) (called : Bool) (b : Side) → s.ic < m.ic → m.ic < 2 ^ 64
    → Goes a (one_step i h (interval_at s m a) (position_at s c a)) row t called b → t.ic ≡ count_up s.ic
    → side_to_come i h m s c a ≡ with_rows (row ∷ []) (side_to_come i h m t called b)
gone_on i h m s c a row t called b lt fits g up =
    let count : m.ic - s.ic ≡ suc (m.ic - t.ic) = omega (arith, lt, fits, up) in
    ap (λ n. to_come i h (interval_at s m a) n (position_at s c a)) count ∙ went i h (m.ic - t.ic) s m a _ row t called b g

stop_only : (i : Program) (h n : ℕ) (v : Interval) (x : Next) (o : Outcome) → x ≡ Stop o
    → elim x as (λ u. Replayed) [ On q ↦ with_rows (take 1 q.rows) (to_come i h v n q) | Stop p ↦ record { rows = []; outcome = p } ] ≡ record { rows = []; outcome = o }
stop_only i h n v x o e = ap (λ (y : Next). elim y as (λ u. Replayed) [ On q ↦ with_rows (take 1 q.rows) (to_come i h v n q) | Stop p ↦ record { rows = []; outcome = p } ]) e

-- if the definition stops, the outcome alone is to come
pub stopped : (i : Program) (h : ℕ) (m : EndMark) (s : HartState) (c : Bool) (a : Side) (o : Outcome) → s.ic < m.ic
    → one_step i h (interval_at s m a) (position_at s c a) ≡ Stop o → side_to_come i h m s c a ≡ record { rows = []; outcome = o }
stopped i h m s c a o lt e =
    let count : m.ic - s.ic ≡ suc (m.ic - s.ic - 1) = omega (arith, lt) in
    ap (λ n. to_come i h (interval_at s m a) n (position_at s c a)) count ∙ stop_only i h (m.ic - s.ic - 1) (interval_at s m a) _ o e

-- if the next row tells a word, the first row that is to come does
keeps_first : (i : Program) (h n : ℕ) (v : Interval) (x : Next) → KeepsWord x
    → a_word_comes (elim x as (λ u. Replayed) [ On q ↦ with_rows (take 1 q.rows) (to_come i h v n q) | Stop o ↦ record { rows = []; outcome = o } ]).rows ≡ true
keeps_first i h n v (Stop o) tells = absurd tells
keeps_first i h n v (On q) tells = by_rows q.rows tells (to_come i h v n q).rows
  where
    by_rows : (rs : List Row) → a_word_comes rs ≡ true → (more : List Row) → a_word_comes (take 1 rs ++ more) ≡ true
    by_rows [] none more = absurd cc
    by_rows (r ∷ rs) tells more = tells

pub kept_first : (i : Program) (h : ℕ) (m : EndMark) (s : HartState) (c : Bool) (a : Side) → s.ic < m.ic
    → KeepsWord (one_step i h (interval_at s m a) (position_at s c a)) → a_word_comes (side_to_come i h m s c a).rows ≡ true
kept_first i h m s c a lt tells =
    let count : m.ic - s.ic ≡ suc (m.ic - s.ic - 1) = omega (arith, lt) in
    ap (λ n. a_word_comes (to_come i h (interval_at s m a) n (position_at s c a)).rows) count ∙ keeps_first i h (m.ic - s.ic - 1) (interval_at s m a) _ tells

-- ---- the state by the rows

only : (r row : Row) → ◌≡◌ {A = List Row} (r ∷ []) (row ∷ []) → r ≡ row
only r row e = cc

module _ (i : Program) (h : ℕ) (s t : HartState) (called : Bool) (a b : Side) (row : Row) where
  -- the reply that the row tells is the one that the state after it has
  reply_told : (k : Want) (reply : Reply) (load store : Option (ℕ × ℕ)) (u : HartState) → u ≡ t → u ≡ absorbed (record { state = s; want = k }) reply → row_of h i s u load store ≡ row
      → reply_in (row_of h i s u load store) k ≡ reply → step i s ≡ Asks k → t ≡ after_row i s row
  reply_told k reply load store u now is r same e =
      sym now ∙ is ∙ ap (λ (y : Reply). absorbed (record { state = s; want = k }) y) (sym same)
      ∙ sym (ap (λ (x : Step). elim x as (λ y. HartState) [ Quiet v ↦ v | Asks j ↦ absorbed (record { state = s; want = j }) (reply_in (row_of h i s u load store) j) ]) e)
      ∙ ap (after_row i s) r

  called_told : (k : Want) (reply : Reply) (reg : Option (ℕ × ℕ)) → absorbed (record { state = s; want = k }) reply ≡ t → call_row h i s reg ≡ row
      → reply_in (call_row h i s reg) k ≡ reply → step i s ≡ Asks k → t ≡ after_row i s row
  called_told k reply reg now r same e =
      sym now ∙ ap (λ (y : Reply). absorbed (record { state = s; want = k }) y) (sym same)
      ∙ sym (ap (λ (x : Step). elim x as (λ y. HartState) [ Quiet v ↦ v | Asks j ↦ absorbed (record { state = s; want = j }) (reply_in (call_row h i s reg) j) ]) e)
      ∙ ap (after_row i s) r

module _ (i : Program) (h : ℕ) (m : EndMark) (s : HartState) (c : Bool) (a : Side) (row : Row) (t : HartState) (called : Bool) (b : Side) where
  loaded : (w : ℕ) (k : Want) (reply : ℕ → Reply) (load store : ℕ → Option (ℕ × ℕ)) → step i s ≡ Asks k
      → ((x : ℕ) (u : HartState) → reply_in (row_of h i s u (load x) (store x)) k ≡ reply x) → (o : Option ℕ)
      → Goes a (elim o as (λ y. Next) [ None ↦ missing h (position_at s c a) w | Some x ↦ after_ask i h (position_at s c a) (record { state = s; want = k }) (reply x) 1 (load x) (store x) ]) row t called b → t ≡ after_row i s row
  loaded w k reply load store e same None g = absurd g
  loaded w k reply load store e same (Some x) g =
      let u = absorbed (record { state = s; want = k }) (reply x) in
      reply_told i h s t called a b row k (reply x) (load x) (store x) u g.0 refl (only _ row g.2) (same x u) e

  tried : (w y : ℕ) (k : Want) → step i s ≡ Asks k
      → ((u : HartState) (good : Bool) → reply_in (row_of h i s u None (cond good (Some (w, y)) None)) k ≡ cond good replies.ScOk replies.ScFailed) → (o : Option Bool)
      → Goes a (elim o as (λ z. Next) [ None ↦ Stop (Refused (ScMissing h s.ic)) | Some good ↦ after_sc i h (position_at s c a) (record { state = s; want = k }) good w y ]) row t called b → t ≡ after_row i s row
  tried w y k e same None g = absurd g
  tried w y k e same (Some good) g =
      let u = absorbed (record { state = s; want = k }) (cond good replies.ScOk replies.ScFailed) in
      reply_told i h s t called a b row k (cond good replies.ScOk replies.ScFailed) None (cond good (Some (w, y)) None) u g.0 refl (only _ row g.2) (same u good) e

  stored : (w width y : ℕ) → step i s ≡ Asks (Store w width y) → (x : Bool) (o : Option ℕ)
      → Goes a (elim x as (λ z. Next) [ true ↦ after_ask i h (position_at s c a) (record { state = s; want = Store w width y }) Stored 0 None (Some (w, y)) | false ↦ elim o as (λ z. Next) [ None ↦ missing h (position_at s c a) w | Some v ↦ after_ask i h (position_at s c a) (record { state = s; want = Store w width y }) Stored 1 None (Some (w, stored_word w width y v)) ] ]) row t called b → t ≡ after_row i s row
  stored w width y e true o g =
      let u = absorbed (record { state = s; want = Store w width y }) Stored in
      reply_told i h s t called a b row (Store w width y) Stored None (Some (w, y)) u g.0 refl (only _ row g.2) refl e
  stored w width y e false o g = loaded w (Store w width y) (λ x. Stored) (λ x. None) (λ x. Some (w, stored_word w width y x)) e (λ x u. refl) o g

  rung : (n : ℕ) (args : List ℕ) → step i s ≡ Asks (System n args) → (x y : Bool) (r a0 : ℕ)
      → Goes a (elim x as (λ z. Next) [ true ↦ elim y as (λ z. Next) [ true ↦ On (record { state = absorbed (record { state = s; want = System n args }) (Answer m.value); loads = a.met; conditionals = a.tried; rows = call_row h i s (Some (10, m.value)) ∷ a.rows; called = true }) | false ↦ On (record { state = absorbed (record { state = s; want = System n args }) Over; loads = a.met; conditionals = a.tried; rows = call_row h i s None ∷ a.rows; called = true }) ] | false ↦ Stop (Refused (EndDiffers h m (found (s.ic + 1) r a0))) ]) row t called b → t ≡ after_row i s row
  rung n args e true true r a0 g = called_told i h s t called a b row (System n args) (Answer m.value) (Some (10, m.value)) g.0 (only _ row g.2) refl e
  rung n args e true false r a0 g = called_told i h s t called a b row (System n args) Over None g.0 (only _ row g.2) refl e
  rung n args e false y r a0 g = absurd g

  good_reply : (w rd y : ℕ) (u : HartState) (good : Bool) → reply_in (row_of h i s u None (cond good (Some (w, y)) None)) (StoreConditional w rd y) ≡ cond good replies.ScOk replies.ScFailed
  good_reply w rd y u true = refl
  good_reply w rd y u false = refl

  asked : (k : Want) → step i s ≡ Asks k → Goes a (ask_step i h (interval_at s m a) (position_at s c a) k) row t called b → t ≡ after_row i s row
  asked (Load w width sg rd) e g = loaded w (Load w width sg rd) Word (λ x. Some (w, x)) (λ x. None) e (λ x u. refl) _ g
  asked (LoadReserved w rd) e g = loaded w (LoadReserved w rd) Word (λ x. Some (w, x)) (λ x. None) e (λ x u. refl) _ g
  asked (Amo w o rd y) e g = loaded w (Amo w o rd y) Word (λ x. Some (w, x)) (λ x. Some (w, amo_result o x y)) e (λ x u. refl) _ g
  asked (Store w width y) e g = stored w width y e (width == 4) _ g
  asked (StoreConditional w rd y) e g = tried w y (StoreConditional w rd y) e (good_reply w rd y) _ g
  asked (System n args) e g =
      let reason = call_reason n in
      let value : ℕ = elim (reason == 2) [ true ↦ 0 | false ↦ slice_index args 0 ] in
      rung n args e (s.ic + 1 == m.ic && (reason == m.reason) && ((reason == 2) || (value == m.value))) (reason == 2) reason value g
  asked Cut e g = absurd g
  asked (Faulted f y) e g = absurd g

  by_step : (x : Step) → step i s ≡ x → Goes a (elim x as (λ y. Next) [ Quiet u ↦ On (record { state = u; loads = a.met; conditionals = a.tried; rows = row_of h i s u None None ∷ a.rows; called = false }) | Asks k ↦ ask_step i h (interval_at s m a) (position_at s c a) k ]) row t called b → t ≡ after_row i s row
  by_step (Quiet u) e g =
      sym g.0 ∙ sym (ap (λ (x : Step). elim x as (λ y. HartState) [ Quiet v ↦ v | Asks j ↦ absorbed (record { state = s; want = j }) (reply_in (row_of h i s u None None) j) ]) e) ∙ ap (after_row i s) (only _ row g.2)
  by_step (Asks k) e g = asked k e g

  -- the state after an instruction is that of its row
  pub state_after : Goes a (one_step i h (interval_at s m a) (position_at s c a)) row t called b → t ≡ after_row i s row
  state_after g = by_step (step i s) refl g

-- ---- the start

-- an instruction adds its row to those before
abbrev pub Grows : List Row → Next → Type 0
Grows rows (On q) = (more : List Row) → onto q.rows more ≡ onto rows (take 1 q.rows ++ more)
Grows rows (Stop o) = Unit {0}

module _ (i : Program) (h : ℕ) (v : Interval) (p : Position) where
  loads_grow : (w : ℕ) (k : Want) (reply : ℕ → Reply) (load store : ℕ → Option (ℕ × ℕ)) (o : Option ℕ)
      → Grows p.rows (elim o as (λ y. Next) [ None ↦ missing h p w | Some x ↦ after_ask i h p (record { state = p.state; want = k }) (reply x) 1 (load x) (store x) ])
  loads_grow w k reply load store None = tt
  loads_grow w k reply load store (Some x) = λ more. refl

  stores_grow : (w width y : ℕ) (x : Bool) (o : Option ℕ)
      → Grows p.rows (elim x as (λ z. Next) [ true ↦ after_ask i h p (record { state = p.state; want = Store w width y }) Stored 0 None (Some (w, y)) | false ↦ elim o as (λ z. Next) [ None ↦ missing h p w | Some u ↦ after_ask i h p (record { state = p.state; want = Store w width y }) Stored 1 None (Some (w, stored_word w width y u)) ] ])
  stores_grow w width y true o = λ more. refl
  stores_grow w width y false o = loads_grow w (Store w width y) (λ x. Stored) (λ x. None) (λ x. Some (w, stored_word w width y x)) o

  tries_grow : (w y : ℕ) (k : Want) (o : Option Bool)
      → Grows p.rows (elim o as (λ z. Next) [ None ↦ Stop (Refused (ScMissing h p.state.ic)) | Some good ↦ after_sc i h p (record { state = p.state; want = k }) good w y ])
  tries_grow w y k None = tt
  tries_grow w y k (Some good) = λ more. refl

  calls_grow : (k : Want) (x y : Bool) (r a0 : ℕ)
      → Grows p.rows (elim x as (λ z. Next) [ true ↦ elim y as (λ z. Next) [ true ↦ On (record { state = absorbed (record { state = p.state; want = k }) (Answer v.mark.value); loads = p.loads; conditionals = p.conditionals; rows = call_row h i p.state (Some (10, v.mark.value)) ∷ p.rows; called = true }) | false ↦ On (record { state = absorbed (record { state = p.state; want = k }) Over; loads = p.loads; conditionals = p.conditionals; rows = call_row h i p.state None ∷ p.rows; called = true }) ] | false ↦ Stop (Refused (EndDiffers h v.mark (found (p.state.ic + 1) r a0))) ])
  calls_grow k true true r a0 = λ more. refl
  calls_grow k true false r a0 = λ more. refl
  calls_grow k false y r a0 = tt

  asks_grow : (k : Want) → Grows p.rows (ask_step i h v p k)
  asks_grow (Load w width sg rd) = loads_grow w (Load w width sg rd) Word (λ x. Some (w, x)) (λ x. None) _
  asks_grow (LoadReserved w rd) = loads_grow w (LoadReserved w rd) Word (λ x. Some (w, x)) (λ x. None) _
  asks_grow (Amo w o rd y) = loads_grow w (Amo w o rd y) Word (λ x. Some (w, x)) (λ x. Some (w, amo_result o x y)) _
  asks_grow (Store w width y) = stores_grow w width y (width == 4) _
  asks_grow (StoreConditional w rd y) = tries_grow w y (StoreConditional w rd y) _
  asks_grow (System n args) =
      let reason = call_reason n in
      let value : ℕ = elim (reason == 2) [ true ↦ 0 | false ↦ slice_index args 0 ] in
      calls_grow (System n args) (p.state.ic + 1 == v.mark.ic && (reason == v.mark.reason) && ((reason == 2) || (value == v.mark.value))) (reason == 2) reason value
  asks_grow Cut = tt
  asks_grow (Faulted f y) = tt

  steps_grow : Grows p.rows (one_step i h v p)
  steps_grow = by_step (step i p.state)
    where
      by_step : (x : Step) → Grows p.rows (elim x as (λ y. Next) [ Quiet u ↦ On (record { state = u; loads = p.loads; conditionals = p.conditionals; rows = row_of h i p.state u None None ∷ p.rows; called = false }) | Asks k ↦ ask_step i h v p k ])
      by_step (Quiet u) = λ more. refl
      by_step (Asks k) = asks_grow k

abbrev pub onto_rows : List Row → Replayed → Replayed
onto_rows rows x = record { rows = onto rows x.rows; outcome = x.outcome }

ends_onto : (i : Program) (h : ℕ) (v : Interval) (p : Position) → ended i h v p ≡ onto_rows p.rows (ended i h v (without_rows p))
ends_onto i h v p = by_reason (nat_lt 16 v.mark.reason) (step i p.state) ((v.mark.reason == 2 || (v.mark.reason == 3) || (v.mark.reason == 4)) && not p.called)
  where
    by_test : (x : Bool) (f : Fault) (y : ℕ)
        → elim x as (λ u. Replayed) [ true ↦ finish (fault_row h i p.state f y ∷ p.rows) (left_over h v p) | false ↦ finish p.rows (Refused (EndDiffers h v.mark (found p.state.ic (16 + fault_number f) y))) ]
        ≡ onto_rows p.rows (elim x as (λ u. Replayed) [ true ↦ finish (fault_row h i p.state f y ∷ []) (left_over h v p) | false ↦ finish [] (Refused (EndDiffers h v.mark (found p.state.ic (16 + fault_number f) y))) ])
    by_test true f y = refl
    by_test false f y = refl

    by_want : (k : Want) → fault_end i h v p k ≡ onto_rows p.rows (fault_end i h v (without_rows p) k)
    by_want (Load w width sg rd) = refl
    by_want (LoadReserved w rd) = refl
    by_want (Amo w o rd y) = refl
    by_want (Store w width y) = refl
    by_want (StoreConditional w rd y) = refl
    by_want (System n args) = refl
    by_want Cut = refl
    by_want (Faulted f y) = by_test (16 + fault_number f == v.mark.reason && (y == v.mark.value)) f y

    by_reason : (x : Bool) (y : Step) (z : Bool)
        → elim x as (λ u. Replayed) [ true ↦ elim y as (λ u. Replayed) [ Quiet u ↦ finish p.rows (Refused (EndDiffers h v.mark (found p.state.ic 1 0))) | Asks k ↦ fault_end i h v p k ] | false ↦ elim z as (λ u. Replayed) [ true ↦ finish p.rows (Refused (EndDiffers h v.mark (found p.state.ic 1 0))) | false ↦ finish p.rows (left_over h v p) ] ]
        ≡ onto_rows p.rows (elim x as (λ u. Replayed) [ true ↦ elim y as (λ u. Replayed) [ Quiet u ↦ finish [] (Refused (EndDiffers h v.mark (found p.state.ic 1 0))) | Asks k ↦ fault_end i h v (without_rows p) k ] | false ↦ elim z as (λ u. Replayed) [ true ↦ finish [] (Refused (EndDiffers h v.mark (found p.state.ic 1 0))) | false ↦ finish [] (left_over h v p) ] ])
    by_reason true (Quiet u) z = refl
    by_reason true (Asks k) z = by_want k
    by_reason false y true = refl
    by_reason false y false = refl

-- the replay from a position is its rows, and what is to come
pub steps_onto : (i : Program) (h n : ℕ) (v : Interval) (p : Position) → steps i h v n p ≡ onto_rows p.rows (to_come i h v n p)
steps_onto i h zero v p = ends_onto i h v p
steps_onto i h (suc n) v p = by_next (one_step i h v p) (steps_grow i h v p) (λ q. steps_onto i h n v q)
  where
    by_next : (x : Next) → Grows p.rows x → ((q : Position) → steps i h v n q ≡ onto_rows q.rows (to_come i h v n q))
        → elim x as (λ u. Replayed) [ On q ↦ steps i h v n q | Stop o ↦ finish p.rows o ]
        ≡ onto_rows p.rows (elim x as (λ u. Replayed) [ On q ↦ with_rows (take 1 q.rows) (to_come i h v n q) | Stop o ↦ record { rows = []; outcome = o } ])
    by_next (On q) g rest = rest q ∙ ap (λ (rs : List Row). record { rows = rs; outcome = (to_come i h v n q).outcome }) (g (to_come i h v n q).rows)
    by_next (Stop o) g rest = refl

-- all of an interval is to come at its start, whatever pages without words are kept
pub starts : (i : Program) (h : ℕ) (s : HartState) (l : Logged) (pages : List (ℕ × Frame)) → ((k : ℕ) → word_at pages k ≡ None)
    → side_to_come i h l.mark s false (side (record { loads = l.loads; skipped = 0 }) l.conditionals pages) ≡ steps i h (interval_from s l) (l.mark.ic - s.ic) (first (interval_from s l))
starts i h s l pages none =
    sym (steps_onto i h (l.mark.ic - s.ic) (interval_from s l) (first (interval_from s l))
    ∙ coming_alike i h (l.mark.ic - s.ic) s s s l.mark false (record { loads = l.loads; met = 0; conditionals = l.conditionals; tried = 0; rows = [] }) (side (record { loads = l.loads; skipped = 0 }) l.conditionals pages)
    (record { loads = λ k. refl; loads_left = λ k. refl; conditionals = λ k. refl; conditionals_left = λ k. refl; words = λ w. sym (known_none pages w none) }))

-- ---- a replayer

-- what is to come of a cursor, and how a replayer with it is seen
abbrev pub cursor_to_come : IntervalCursor → Replayed
cursor_to_come o = side_to_come o.image.now o.hart o.mark o.state o.called (side_of o)

abbrev pub seen_as : IntervalCursor → Option (Result (Unit {0}) ReplayError) → Replaying
seen_as o ended = record { program = o.image.now; mark = o.mark; state = o.state; left = left_by ended (cursor_to_come o) }

abbrev pub SamePlan : IntervalCursor → IntervalCursor → Type 0
SamePlan o n = (n.image ≡ o.image) × (n.hart ≡ o.hart) × (n.mark ≡ o.mark)

same_to_come : (o n : IntervalCursor) → SamePlan o n → side_to_come o.image.now o.hart o.mark n.state n.called (side_of n) ≡ cursor_to_come n
same_to_come o n same =
    let i : n.image.now ≡ o.image.now = ap (λ (b : CacheOf). b.now) same.0 in
    sym (ap (λ (x : Program). side_to_come x n.hart n.mark n.state n.called (side_of n)) i
    ∙ ap (λ (x : ℕ). side_to_come o.image.now x n.mark n.state n.called (side_of n)) same.1
    ∙ ap (λ (x : EndMark). side_to_come o.image.now o.hart x n.state n.called (side_of n)) same.2)

-- a row was given
pub stepped_on : (o n : IntervalCursor) (ended : Option (Result (Unit {0}) ReplayError)) (now : Replaying) (row : Row) → seen_as o ended ≡ now → ended ≡ None → o.state.ic < o.mark.ic → o.mark.ic < 2 ^ 64
    → Does (side_of o) (one_step o.image.now o.hart (interval_at o.state o.mark (side_of o)) (position_at o.state o.called (side_of o))) o.state (Ok tt) row n.state n.called (side_of n) → SamePlan o n
    → (now.left ≡ with_rows (row ∷ []) (left_by ended (cursor_to_come n))) × (n.state ≡ after_row now.program now.state row) × (n.image.now ≡ now.program) × (n.mark ≡ now.mark)
stepped_on o n ended now row view none lt fits does same =
    let gone : cursor_to_come o ≡ with_rows (row ∷ []) (cursor_to_come n) = gone_on o.image.now o.hart o.mark o.state o.called (side_of o) row n.state n.called (side_of n) lt fits does.0 does.1 ∙ ap (with_rows (row ∷ [])) (same_to_come o n same) in
    subst (λ (r : Replaying). (r.left ≡ with_rows (row ∷ []) (left_by ended (cursor_to_come n))) × (n.state ≡ after_row r.program r.state row) × (n.image.now ≡ r.program) × (n.mark ≡ r.mark)) view (
      ap (λ (x : Option (Result (Unit {0}) ReplayError)). left_by x (cursor_to_come o)) none ∙ gone ∙ sym (ap (λ (x : Option (Result (Unit {0}) ReplayError)). with_rows (row ∷ []) (left_by x (cursor_to_come n))) none),
      state_after o.image.now o.hart o.mark o.state o.called (side_of o) row n.state n.called (side_of n) does.0,
      ap (λ (b : CacheOf). b.now) same.0,
      same.2,
    )

-- it was refused
pub stepped_out : (o n : IntervalCursor) (ended : Option (Result (Unit {0}) ReplayError)) (now : Replaying) (e : ReplayError) (row : Row) → seen_as o ended ≡ now → ended ≡ None → o.state.ic < o.mark.ic
    → Does (side_of o) (one_step o.image.now o.hart (interval_at o.state o.mark (side_of o)) (position_at o.state o.called (side_of o))) o.state (Err e) row n.state n.called (side_of n) → SamePlan o n
    → ((now.left ≡ outcome_only (Refused e)) ⊎ (e ≡ OutOfMemory)) × (◌≡◌ {A = Replaying} (record { program = n.image.now; mark = n.mark; state = n.state; left = outcome_only (Refused e) }) (record { program = now.program; mark = now.mark; state = now.state; left = outcome_only (Refused e) }))
    × ((now.left ≡ outcome_only (Refused e)) ⊎ (a_word_comes now.left.rows ≡ true))
stepped_out o n ended now e row view none lt does same =
    subst (λ (r : Replaying). ((r.left ≡ outcome_only (Refused e)) ⊎ (e ≡ OutOfMemory)) × (◌≡◌ {A = Replaying} (record { program = n.image.now; mark = n.mark; state = n.state; left = outcome_only (Refused e) }) (record { program = r.program; mark = r.mark; state = r.state; left = outcome_only (Refused e) })) × ((r.left ≡ outcome_only (Refused e)) ⊎ (a_word_comes r.left.rows ≡ true))) view (
      by_answer does.0,
      ap (λ (b : CacheOf). record { program = b.now; mark = n.mark; state = n.state; left = outcome_only (Refused e) }) same.0 ∙ ap (λ (m : EndMark). record { program = o.image.now; mark = m; state = n.state; left = outcome_only (Refused e) }) same.2
          ∙ ap (λ (s : HartState). record { program = o.image.now; mark = o.mark; state = s; left = outcome_only (Refused e) }) does.1,
      by_row does.0,
    )
  where
    next : Next
    next = one_step o.image.now o.hart (interval_at o.state o.mark (side_of o)) (position_at o.state o.called (side_of o))

    all : left_by ended (cursor_to_come o) ≡ cursor_to_come o
    all = ap (λ (x : Option (Result (Unit {0}) ReplayError)). left_by x (cursor_to_come o)) none

    by_answer : (next ≡ Stop (Refused e)) ⊎ ((e ≡ OutOfMemory) × KeepsWord next) → (left_by ended (cursor_to_come o) ≡ outcome_only (Refused e)) ⊎ (e ≡ OutOfMemory)
    by_answer (inl a) = inl (all ∙ stopped o.image.now o.hart o.mark o.state o.called (side_of o) (Refused e) lt a)
    by_answer (inr a) = inr a.0

    by_row : (next ≡ Stop (Refused e)) ⊎ ((e ≡ OutOfMemory) × KeepsWord next) → (left_by ended (cursor_to_come o) ≡ outcome_only (Refused e)) ⊎ (a_word_comes (left_by ended (cursor_to_come o)).rows ≡ true)
    by_row (inl a) = inl (all ∙ stopped o.image.now o.hart o.mark o.state o.called (side_of o) (Refused e) lt a)
    by_row (inr a) = inr (ap (λ (x : Replayed). a_word_comes x.rows) all ∙ kept_first o.image.now o.hart o.mark o.state o.called (side_of o) lt a.1)

-- it begins
pub begins : (i : Program) (h c : ℕ) (records rs : List Record) (start : IntervalStart) (m : EndMark) (lo : Pending) (co : List Bool) (pages : List (ℕ × Frame)) → rs ≡ records
    → interval_of h c rs ≡ Some (interval_from start.state (puts h (drop start.next rs) nothing)) → start.hart ≡ h
    → m ≡ mark_in start.hart (drop start.next rs) → lo ≡ record { loads = loads_in start.hart (drop start.next rs); skipped = 0 } → co ≡ conditionals_in start.hart (drop start.next rs)
    → ((k : ℕ) → word_at pages k ≡ None)
    → Begins i h c records (record { program = i; mark = m; state = start.state; left = side_to_come i start.hart m start.state false (side lo co pages) })
begins i h c records rs start m lo co pages all found hart mark loads conditionals none =
    let rest = drop start.next rs in
    let s = start.state in
    let there : interval_of h c records ≡ Some (interval_from s (puts h rest nothing)) = ap (interval_of h c) (sym all) ∙ found in
    record {
      program = refl;
      interval = interval_from s (puts h rest nothing);
      found = there;
      mark = mark ∙ ap (λ (k : ℕ). mark_in k rest) hart;
      state = refl;
      left =
          ap (λ (x : EndMark). side_to_come i start.hart x s false (side lo co pages)) mark
          ∙ ap (λ (x : Pending). side_to_come i start.hart (mark_in start.hart rest) s false (side x co pages)) loads
          ∙ ap (λ (x : List Bool). side_to_come i start.hart (mark_in start.hart rest) s false (side (record { loads = loads_in start.hart rest; skipped = 0 }) x pages)) conditionals
          ∙ ap (λ (k : ℕ). side_to_come i k (mark_in k rest) s false (side (record { loads = loads_in k rest; skipped = 0 }) (conditionals_in k rest) pages)) hart
          ∙ starts i h s (puts h rest nothing) pages none
          ∙ sym (ap (replayed_in i h c) there);
    }
