-- The marks of a replay that ends otherwise than its log says.
use Rattle.replay_laws.proofs.Common.{◌≡◌, ◌<◌, ◌^◌, ◌⊎◌, inl, inr, ℕ, zero, suc, ◌+◌, ◌-◌, ◌==◌, Bool, true, false, not, ◌&&◌, ◌||◌, List, ◌∷◌, length, Option, Some, None, refl, sym, ◌∙◌, ap, subst, arith, ◌≢◌, nat_lt, nat_le, slice_index, Program, fault_number, EndMark, Fault, Row, HartState, row_of, fault_row, stored_word, amo_result, Quiet, Asks, step, count_up, Step, Want, Load, Store, LoadReserved, StoreConditional, Amo, System, Cut, Faulted, Word, Stored, Outcome, Done, Refused, Replayed, Interval, Position, Next, On, Stop, found, finish, left_over, fault_end, ended, one_step, ask_step, after_ask, after_sc, system_step, missing, word_for, slot, call_reason, steps, first, replayed_in, taken_from, EndDiffers, RecordsLeft, LoadMissing, ScMissing, eq-eqb, and_from, or_right}
use Rattle.replay_laws.proofs.Calls.{exit_counts}
use Rattle.replay_laws.specs.Differing.{IsFair, EndsThatDifferAreTold}

-- ---- single outcomes

done_fair : (m : EndMark) → IsFair m Done
done_fair m h s f e = cc

left_fair : (m : EndMark) (hart n : ℕ) → IsFair m (Refused (RecordsLeft hart n))
left_fair m hart n h s f e = cc

load_fair : (m : EndMark) (hart ic a : ℕ) → IsFair m (Refused (LoadMissing hart ic a))
load_fair m hart ic a h s f e = cc

sc_fair : (m : EndMark) (hart ic : ℕ) → IsFair m (Refused (ScMissing hart ic))
sc_fair m hart ic h s f e = cc

differ_fair : (m x : EndMark) (hart : ℕ) → x ≢ m → IsFair m (Refused (EndDiffers hart m x))
differ_fair m x hart differ h s f e =
    let p : m ≡ s = cc in
    let q : x ≡ f = cc in
    (sym p, λ same. differ (q ∙ same))

left_over_fair : (m : EndMark) (hart n : ℕ) (b : Bool) → IsFair m (elim b as (λ x. Outcome) [ true ↦ Done | false ↦ Refused (RecordsLeft hart n) ])
left_over_fair m hart n true = done_fair m
left_over_fair m hart n false = left_fair m hart n

-- ---- marks that differ

other_reason : (m : EndMark) (ic reason value : ℕ) → reason ≢ m.reason → found ic reason value ≢ m
other_reason m ic reason value differ same = differ (ap (λ (x : EndMark). x.reason) same)

other_count : (m : EndMark) (ic reason value : ℕ) → ic ≢ m.ic → found ic reason value ≢ m
other_count m ic reason value differ same = differ (ap (λ (x : EndMark). x.ic) same)

tests_clash : (b : Bool) → b ≡ true → b ≡ false → ⊥
tests_clash b t f = cc

-- ---- the end

above : (n : ℕ) → nat_lt 16 n ≡ true → 1 ≢ n
above n t e = grind (arith, t, e)

called_reason : (n : ℕ) (c : Bool) → ((n == 2 || (n == 3) || (n == 4)) && c) ≡ true → 1 ≢ n
called_reason n c t e = no_call c (subst (λ (k : ℕ). ((k == 2 || (k == 3) || (k == 4)) && c) ≡ true) (sym e) t)
  where
    no_call : (c : Bool) → ((1 == 2 || (1 == 3) || (1 == 4)) && c) ≡ true → ⊥
    no_call c t = cc

fault_tested : (i : Program) (h : ℕ) (v : Interval) (p : Position) (f : Fault) (y : ℕ) (b : Bool) → (16 + fault_number f == v.mark.reason && (y == v.mark.value)) ≡ b
    → (outcome : Outcome) → IsFair v.mark outcome → (rows : List Row) → IsFair v.mark (elim b as (λ x. Replayed) [ true ↦ finish rows outcome | false ↦ finish p.rows (Refused (EndDiffers h v.mark (found p.state.ic (16 + fault_number f) y))) ]).outcome
fault_tested i h v p f y true t outcome fair rows = fair
fault_tested i h v p f y false t outcome fair rows =
    differ_fair v.mark (found p.state.ic (16 + fault_number f) y) h (λ same.
    tests_clash (16 + fault_number f == v.mark.reason && (y == v.mark.value)) (and_from (16 + fault_number f == v.mark.reason) (y == v.mark.value) (eq-eqb _ _ (ap (λ (x : EndMark). x.reason) same)) (eq-eqb _ _ (ap (λ (x : EndMark). x.value) same))) t)

left_of : (h : ℕ) (v : Interval) (p : Position) → IsFair v.mark (left_over h v p)
left_of h v p = let n = (length v.loads - taken_from 0 v.loads p.loads) + (length v.conditionals - p.conditionals) in left_over_fair v.mark h n (n == 0)

fault_end_fair : (i : Program) (h : ℕ) (v : Interval) (p : Position) (k : Want) → 1 ≢ v.mark.reason → IsFair v.mark (fault_end i h v p k).outcome
fault_end_fair i h v p (Faulted f y) r = fault_tested i h v p f y (16 + fault_number f == v.mark.reason && (y == v.mark.value)) refl (left_over h v p) (left_of h v p) (fault_row h i p.state f y ∷ p.rows)
fault_end_fair i h v p k r = differ_fair v.mark (found p.state.ic 1 0) h (other_reason v.mark p.state.ic 1 0 r)

fault_due : (i : Program) (h : ℕ) (v : Interval) (p : Position) (x : Step) → 1 ≢ v.mark.reason
    → IsFair v.mark (elim x as (λ y. Replayed) [ Quiet t ↦ finish p.rows (Refused (EndDiffers h v.mark (found p.state.ic 1 0))) | Asks k ↦ fault_end i h v p k ]).outcome
fault_due i h v p (Quiet t) r = differ_fair v.mark (found p.state.ic 1 0) h (other_reason v.mark p.state.ic 1 0 r)
fault_due i h v p (Asks k) r = fault_end_fair i h v p k r

call_due : (h : ℕ) (v : Interval) (p : Position) (b : Bool) → ((v.mark.reason == 2 || (v.mark.reason == 3) || (v.mark.reason == 4)) && not p.called) ≡ b
    → IsFair v.mark (elim b as (λ y. Replayed) [ true ↦ finish p.rows (Refused (EndDiffers h v.mark (found p.state.ic 1 0))) | false ↦ finish p.rows (left_over h v p) ]).outcome
call_due h v p true t = differ_fair v.mark (found p.state.ic 1 0) h (other_reason v.mark p.state.ic 1 0 (called_reason v.mark.reason (not p.called) t))
call_due h v p false t = left_of h v p

ended_fair : (i : Program) (h : ℕ) (v : Interval) (p : Position) → IsFair v.mark (ended i h v p).outcome
ended_fair i h v p = by_fault (nat_lt 16 v.mark.reason) refl
  where
    by_fault : (b : Bool) → nat_lt 16 v.mark.reason ≡ b → IsFair v.mark (elim b as (λ y. Replayed) [
      | true ↦ elim (step i p.state) [ Quiet t ↦ finish p.rows (Refused (EndDiffers h v.mark (found p.state.ic 1 0))) | Asks k ↦ fault_end i h v p k ]
      | false ↦ elim ((v.mark.reason == 2 || (v.mark.reason == 3) || (v.mark.reason == 4)) && not p.called) [ true ↦ finish p.rows (Refused (EndDiffers h v.mark (found p.state.ic 1 0))) | false ↦ finish p.rows (left_over h v p) ]
    ]).outcome
    by_fault true t = fault_due i h v p (step i p.state) (above v.mark.reason t)
    by_fault false t = call_due h v p ((v.mark.reason == 2 || (v.mark.reason == 3) || (v.mark.reason == 4)) && not p.called) refl

-- ---- an instruction

-- what comes next of a position is one whose count is one more, or a fair outcome
IsFairNext : EndMark → Position → Next → Type 0
IsFairNext m p (On q) = q.state.ic ≡ count_up p.state.ic
IsFairNext m p (Stop o) = IsFair m o

word_next : (m : EndMark) (h : ℕ) (p : Position) (a : ℕ) (o : Option ℕ) (f : ℕ → Next) → ((x : ℕ) → IsFairNext m p (f x)) → IsFairNext m p (elim o as (λ y. Next) [ None ↦ missing h p a | Some x ↦ f x ])
unfolding IsFairNext
word_next m h p a None f next = load_fair m h p.state.ic a
word_next m h p a (Some x) f next = next x

sc_next : (i : Program) (m : EndMark) (h : ℕ) (p : Position) (a rd y : ℕ) (o : Option Bool) → IsFairNext m p (elim o as (λ z. Next) [ None ↦ Stop (Refused (ScMissing h p.state.ic)) | Some b ↦ after_sc i h p (record { state = p.state; want = StoreConditional a rd y }) b a y ])
unfolding IsFairNext
sc_next i m h p a rd y None = sc_fair m h p.state.ic
sc_next i m h p a rd y (Some true) = refl
sc_next i m h p a rd y (Some false) = refl

store_next : (i : Program) (m : EndMark) (h : ℕ) (v : Interval) (p : Position) (a w y : ℕ) (b : Bool) → IsFairNext m p (elim b as (λ z. Next) [
  | true ↦ after_ask i h p (record { state = p.state; want = Store a w y }) Stored 0 None (Some (a, y))
  | false ↦ elim (word_for v p a) [ None ↦ missing h p a | Some x ↦ after_ask i h p (record { state = p.state; want = Store a w y }) Stored 1 None (Some (a, stored_word a w y x)) ]
])
unfolding IsFairNext
store_next i m h v p a w y true = refl
store_next i m h v p a w y false = word_next m h p a (word_for v p a) (λ x. after_ask i h p (record { state = p.state; want = Store a w y }) Stored 1 None (Some (a, stored_word a w y x))) (λ x. refl)

call_stops : (h : ℕ) (v : Interval) (p : Position) (reason value : ℕ) → (p.state.ic + 1 == v.mark.ic && (reason == v.mark.reason) && ((reason == 2) || (value == v.mark.value))) ≡ false
    → IsFair v.mark (Refused (EndDiffers h v.mark (found (p.state.ic + 1) reason value)))
call_stops h v p reason value t = differ_fair v.mark (found (p.state.ic + 1) reason value) h (λ same.
    tests_clash (p.state.ic + 1 == v.mark.ic && (reason == v.mark.reason) && ((reason == 2) || (value == v.mark.value)))
    (and_from (p.state.ic + 1 == v.mark.ic && (reason == v.mark.reason)) ((reason == 2) || (value == v.mark.value))
    (and_from (p.state.ic + 1 == v.mark.ic) (reason == v.mark.reason) (eq-eqb _ _ (ap (λ (x : EndMark). x.ic) same)) (eq-eqb _ _ (ap (λ (x : EndMark). x.reason) same)))
    (or_right (reason == 2) (value == v.mark.value) (eq-eqb _ _ (ap (λ (x : EndMark). x.value) same)))) t)

call_next : (m : EndMark) (p : Position) (goes : Bool) (on over : Position) → on.state.ic ≡ count_up p.state.ic → (goes ≡ false → over.state.ic ≡ count_up p.state.ic) → IsFairNext m p (elim goes as (λ z. Next) [ true ↦ On on | false ↦ On over ])
unfolding IsFairNext
call_next m p true on over a b = a
call_next m p false on over a b = b refl

done_next : (m : EndMark) (p : Position) (b : Bool) (x : Next) (o : Outcome) → IsFairNext m p x → (b ≡ false → IsFair m o) → IsFairNext m p (elim b as (λ z. Next) [ true ↦ x | false ↦ Stop o ])
unfolding IsFairNext
done_next m p true x o fair stops = fair
done_next m p false x o fair stops = stops refl

system_next : (i : Program) (h : ℕ) (v : Interval) (p : Position) (n a0 : ℕ) (args : List ℕ) → IsFairNext v.mark p (system_step i h v p (record { state = p.state; want = System n args }) n a0)
system_next i h v p n a0 args =
    let reason = call_reason n in
    let value : ℕ = elim (reason == 2) [ true ↦ 0 | false ↦ a0 ] in
    done_next v.mark p (p.state.ic + 1 == v.mark.ic && (reason == v.mark.reason) && ((reason == 2) || (value == v.mark.value))) _ _
    (call_next v.mark p (reason == 2) _ _ refl (exit_counts n p.state.ic))
    (λ t. call_stops h v p reason value t)

ask_next : (i : Program) (h : ℕ) (v : Interval) (p : Position) (k : Want) → p.state.ic ≢ v.mark.ic → IsFairNext v.mark p (ask_step i h v p k)
unfolding IsFairNext
ask_next i h v p (Load a w g rd) before = word_next v.mark h p a (word_for v p a) (λ x. after_ask i h p (record { state = p.state; want = Load a w g rd }) (Word x) 1 (Some (a, x)) None) (λ x. refl)
ask_next i h v p (LoadReserved a rd) before = word_next v.mark h p a (word_for v p a) (λ x. after_ask i h p (record { state = p.state; want = LoadReserved a rd }) (Word x) 1 (Some (a, x)) None) (λ x. refl)
ask_next i h v p (Amo a o rd y) before = word_next v.mark h p a (word_for v p a) (λ x. after_ask i h p (record { state = p.state; want = Amo a o rd y }) (Word x) 1 (Some (a, x)) (Some (a, amo_result o x y))) (λ x. refl)
ask_next i h v p (Store a w y) before = store_next i v.mark h v p a w y (w == 4)
ask_next i h v p (StoreConditional a rd y) before = sc_next i v.mark h p a rd y (slot v.conditionals p.conditionals)
ask_next i h v p (System n args) before = system_next i h v p n (slice_index args 0) args
ask_next i h v p Cut before = done_fair v.mark
ask_next i h v p (Faulted f y) before = differ_fair v.mark (found p.state.ic (16 + fault_number f) y) h (other_count v.mark p.state.ic (16 + fault_number f) y before)

-- ---- all instructions

-- the count after each quiet instruction
abbrev pub QuietCounts : Type 0
QuietCounts = (i : Program) (s t : HartState) → step i s ≡ Quiet t → t.ic ≡ count_up s.ic

one_next : QuietCounts → (i : Program) (h : ℕ) (v : Interval) (p : Position) (x : Step) → step i p.state ≡ x → p.state.ic ≢ v.mark.ic → IsFairNext v.mark p (elim x as (λ y. Next) [
  | Quiet t ↦ On (record { state = t; loads = p.loads; conditionals = p.conditionals; rows = row_of h i p.state t None None ∷ p.rows; called = false })
  | Asks k ↦ ask_step i h v p k
])
unfolding IsFairNext
one_next counts i h v p (Quiet t) e before = counts i p.state t e
one_next counts i h v p (Asks k) e before = ask_next i h v p k before

next_fair : (m : EndMark) (i : Program) (h : ℕ) (v : Interval) (n : ℕ) (p : Position) (x : Next) → IsFairNext m p x → ((q : Position) → q.state.ic ≡ count_up p.state.ic → IsFair m (steps i h v n q).outcome)
    → IsFair m (elim x as (λ y. Replayed) [ On q ↦ steps i h v n q | Stop o ↦ finish p.rows o ]).outcome
unfolding IsFairNext
next_fair m i h v n p (On q) fair rest = rest q fair
next_fair m i h v n p (Stop o) fair rest = fair

-- the mark's count is so many instructions away, or it is reached
abbrev pub IsAway : Interval → ℕ → Position → Type 0
IsAway v n p = (n ≡ 0) ⊎ (p.state.ic + n ≡ v.mark.ic)

before_mark : (v : Interval) (n : ℕ) (p : Position) → IsAway v (suc n) p → p.state.ic ≢ v.mark.ic
before_mark v n p (inl e) same = cc
before_mark v n p (inr e) same = omega (arith, e, same)

away_next : (v : Interval) (n : ℕ) (p q : Position) → v.mark.ic < 2 ^ 64 → IsAway v (suc n) p → q.state.ic ≡ count_up p.state.ic → IsAway v n q
away_next v n p q small (inl e) up = cc
away_next v n p q small (inr e) up = inr (omega (arith, e, up, small))

pub steps_fair : QuietCounts → (i : Program) (h : ℕ) (v : Interval) (n : ℕ) (p : Position) → v.mark.ic < 2 ^ 64 → IsAway v n p → IsFair v.mark (steps i h v n p).outcome
steps_fair counts i h v zero p small away = ended_fair i h v p
steps_fair counts i h v (suc n) p small away =
    next_fair v.mark i h v n p (one_step i h v p) (one_next counts i h v p (step i p.state) refl (before_mark v n p away))
    (λ q up. steps_fair counts i h v n q small (away_next v n p q small away up))

begin_away : (v : Interval) → IsAway v (v.mark.ic - v.start.ic) (first v)
begin_away v = by_order (nat_le v.start.ic v.mark.ic) refl
  where
    by_order : (b : Bool) → nat_le v.start.ic v.mark.ic ≡ b → IsAway v (v.mark.ic - v.start.ic) (first v)
    by_order true t = inr (grind (arith, t))
    by_order false t = inl (grind (arith, t))

pub ends_differ : QuietCounts → EndsThatDifferAreTold
ends_differ counts i records h n v small there =
    subst (λ (o : Option Interval). IsFair v.mark (replayed_in i h n o).outcome) (sym there) (steps_fair counts i h v (v.mark.ic - v.start.ic) (first v) small (begin_away v))
