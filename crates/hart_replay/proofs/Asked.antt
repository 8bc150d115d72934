-- One instruction, done or asked.
use Rattle.hart_replay.proofs.Common.{◌≡◌, ℕ, ◌+◌, ◌<◌, Bool, true, false, Option, Some, None, [], ◌∷◌, refl, sym, ◌∙◌, ap, inl, inr, subst, ◌==◌, ◌&&◌, ◌||◌, ◌⊎◌, not, IsTrue, lt-ltb, false≢true, fault_number, Program, Fault, Row, HartState, Step, Quiet, Asks, step, ask_of, count_up, Ask, Want, Load, Store, LoadReserved, StoreConditional, Amo, System, Cut, Faulted, fault_row, row_of, fetched, ReplayError, EndDiffers, Refused, Replayed, Interval, Position, Next, On, Outcome, ended, fault_end, finish, found, left_over, one_step, ask_step, Side, interval_at, position_at, later, Alike, Does, fault_in, Result, Ok, EndMark}
use Rattle.rv_meaning.specs.Orderly.{is_cut, passes}
use Rattle.rv_meaning.specs.declared.fetched.Fetched.{Fetched}

-- a run of at most one instruction did it, or asks
pub one_ask : (i : Program) (s t : HartState) (k : Want) → ◌≡◌ {A = Ask} (record { state = t; want = k }) (ask_of i 1 s) → ((step i s ≡ Quiet t) × (k ≡ Cut)) ⊎ ((step i s ≡ Asks k) × (t ≡ s))
one_ask i s t k e = by_step (step i s) e
  where
    by_step : (x : Step) → ◌≡◌ {A = Ask} (record { state = t; want = k }) (elim x as (λ y. Ask) [ Quiet u ↦ record { state = u; want = Cut } | Asks w ↦ record { state = s; want = w } ])
        → ((x ≡ Quiet t) × (k ≡ Cut)) ⊎ ((x ≡ Asks k) × (t ≡ s))
    by_step (Quiet u) e = inl (ap (λ (a : Ask). Quiet a.state) (sym e), ap (λ (a : Ask). a.want) e)
    by_step (Asks w) e = inr (ap (λ (a : Ask). Asks a.want) (sym e), ap (λ (a : Ask). a.state) e)

-- the end at a fault's mark, by the fault that is asked
abbrev pub fault_told : Program → ℕ → Interval → Position → Option (Fault × ℕ) → Replayed
fault_told i h v p None = finish p.rows (Refused (EndDiffers h v.mark (found p.state.ic 1 0)))
fault_told i h v p (Some f) = elim (16 + fault_number f.0 == v.mark.reason && (f.1 == v.mark.value)) [
  | true ↦ finish (fault_row h i p.state f.0 f.1 ∷ p.rows) (left_over h v p)
  | false ↦ finish p.rows (Refused (EndDiffers h v.mark (found p.state.ic (16 + fault_number f.0) f.1)))
]

ends_asked : (i : Program) (h : ℕ) (v : Interval) (p : Position) (k : Want) → fault_end i h v p k ≡ fault_told i h v p (fault_in k)
ends_asked i h v p (Load w width sg rd) = refl
ends_asked i h v p (LoadReserved w rd) = refl
ends_asked i h v p (Amo w o rd y) = refl
ends_asked i h v p (Store w width y) = refl
ends_asked i h v p (StoreConditional w rd y) = refl
ends_asked i h v p (System n args) = refl
ends_asked i h v p Cut = refl
ends_asked i h v p (Faulted f y) = refl

-- the end by whether the mark is a fault's, and by the next instruction
abbrev pub end_by : Program → ℕ → Interval → Position → Bool → Step → Replayed
end_by i h v p x y = elim x as (λ u. Replayed) [
  | true ↦ elim y as (λ u. Replayed) [ Quiet u ↦ finish p.rows (Refused (EndDiffers h v.mark (found p.state.ic 1 0))) | Asks j ↦ fault_end i h v p j ]
  | false ↦ elim ((v.mark.reason == 2 || (v.mark.reason == 3) || (v.mark.reason == 4)) && not p.called) as (λ u. Replayed) [ true ↦ finish p.rows (Refused (EndDiffers h v.mark (found p.state.ic 1 0))) | false ↦ finish p.rows (left_over h v p) ]
]

pub ends_by_fault : (i : Program) (h : ℕ) (v : Interval) (p : Position) (t : HartState) (k : Want) → 16 < v.mark.reason → ◌≡◌ {A = Ask} (record { state = t; want = k }) (ask_of i 1 p.state)
    → ended i h v p ≡ fault_told i h v p (fault_in k)
ends_by_fault i h v p t k high e = ap (λ x. end_by i h v p x (step i p.state)) (lt-ltb 16 v.mark.reason high) ∙ by_ask (one_ask i p.state t k e)
  where
    by_ask : ((step i p.state ≡ Quiet t) × (k ≡ Cut)) ⊎ ((step i p.state ≡ Asks k) × (t ≡ p.state)) → end_by i h v p true (step i p.state) ≡ fault_told i h v p (fault_in k)
    by_ask (inl a) = ap (end_by i h v p true) a.0 ∙ sym (ap (λ (j : Want). fault_told i h v p (fault_in j)) a.1)
    by_ask (inr a) = ap (end_by i h v p true) a.0 ∙ ends_asked i h v p k

-- what the law of single instructions says of asks, and of quiet instructions
abbrev pub AsksWell : Type 0
AsksWell = (i : Program) (s : HartState) (w : Want) → step i s ≡ Asks w → (is_cut w ≡ false) × IsTrue (passes i w)

abbrev pub CountsUp : Type 0
CountsUp = (i : Program) (s t : HartState) → step i s ≡ Quiet t → t.ic ≡ count_up s.ic

-- unless it is a cut, the instruction asks
pub asks_of : (i : Program) (s t : HartState) (k : Want) → ◌≡◌ {A = Ask} (record { state = t; want = k }) (ask_of i 1 s) → (k ≡ Cut → ⊥) → (step i s ≡ Asks k) × (t ≡ s)
asks_of i s t k e uncut = by_ask (one_ask i s t k e)
  where
    by_ask : ((step i s ≡ Quiet t) × (k ≡ Cut)) ⊎ ((step i s ≡ Asks k) × (t ≡ s)) → (step i s ≡ Asks k) × (t ≡ s)
    by_ask (inl a) = absurd (uncut a.1)
    by_ask (inr a) = a

pub asks_ready : (i : Program) (h : ℕ) (s t : HartState) (m : EndMark) (k : Want) (here : Fetched) → ◌≡◌ {A = Ask} (record { state = t; want = k }) (ask_of i 1 s) → (k ≡ Cut → ⊥)
    → here ≡ fetched h i s → s.ic < m.ic → AsksWell → (here ≡ fetched h i t) × ((is_cut k ≡ false) × IsTrue (passes i k)) × (t.ic < m.ic)
asks_ready i h s t m k here e uncut is lt law =
    let a = asks_of i s t k e uncut in
    (is ∙ sym (ap (fetched h i) a.1), law i s k a.0, subst (λ (u : HartState). u.ic < m.ic) (sym a.1) lt)

pub does_asked : (i : Program) (h : ℕ) (m : EndMark) (s t : HartState) (called : Bool) (a : Side) (k : Want) (r : Result (Unit {0}) ReplayError) (row : Row) (t2 : HartState) (c2 : Bool) (b : Side)
    → ◌≡◌ {A = Ask} (record { state = t; want = k }) (ask_of i 1 s) → (k ≡ Cut → ⊥)
    → Does a (ask_step i h (interval_at t m a) (position_at t called a) k) t r row t2 c2 b → Does a (one_step i h (interval_at s m a) (position_at s called a)) s r row t2 c2 b
does_asked i h m s t called a k r row t2 c2 b e uncut does =
    let asked = asks_of i s t k e uncut in
    subst (λ (x : Step). Does a (elim x as (λ y. Next) [ Quiet u ↦ On (record { state = u; loads = a.met; conditionals = a.tried; rows = row_of h i s u None None ∷ a.rows; called = false }) | Asks j ↦ ask_step i h (interval_at s m a) (position_at s called a) j ]) s r row t2 c2 b) (sym asked.0)
    (subst (λ (u : HartState). Does a (ask_step i h (interval_at u m a) (position_at u called a) k) u r row t2 c2 b) asked.1 does)

pub does_quiet : (i : Program) (h : ℕ) (m : EndMark) (s t : HartState) (called : Bool) (a : Side) (k : Want) (row : Row)
    → ◌≡◌ {A = Ask} (record { state = t; want = k }) (ask_of i 1 s) → k ≡ Cut → AsksWell → CountsUp → row ≡ row_of h i s t None None
    → Does a (one_step i h (interval_at s m a) (position_at s called a)) s (Ok tt) row t false a
does_quiet i h m s t called a k row e cut law counts is = by_ask (one_ask i s t k e)
  where
    alike : Alike (later a (record { state = t; loads = a.met; conditionals = a.tried; rows = row_of h i s t None None ∷ a.rows; called = false })) a
    alike = record { loads = λ n. refl; loads_left = λ n. refl; conditionals = λ n. refl; conditionals_left = λ n. refl; words = λ w. refl }

    by_ask : ((step i s ≡ Quiet t) × (k ≡ Cut)) ⊎ ((step i s ≡ Asks k) × (t ≡ s)) → Does a (one_step i h (interval_at s m a) (position_at s called a)) s (Ok tt) row t false a
    by_ask (inl q) =
        subst (λ (x : Step). Does a (elim x as (λ y. Next) [ Quiet u ↦ On (record { state = u; loads = a.met; conditionals = a.tried; rows = row_of h i s u None None ∷ a.rows; called = false }) | Asks j ↦ ask_step i h (interval_at s m a) (position_at s called a) j ]) s (Ok tt) row t false a) (sym q.0)
        ((refl, refl, ap (λ (r : Row). r ∷ []) (sym is), alike), counts i s t q.0)
    by_ask (inr q) = absurd (false≢true (sym (law i s k q.0).0 ∙ ap is_cut cut))

-- ---- the end at a fault's mark

pub end_missed : (i : Program) (h : ℕ) (v : Interval) (p : Position) (t : HartState) (k : Want) (e : ReplayError) → 16 < v.mark.reason → ◌≡◌ {A = Ask} (record { state = t; want = k }) (ask_of i 1 p.state)
    → None ≡ fault_in k → e ≡ EndDiffers h v.mark (found p.state.ic 1 0) → finish p.rows (Refused e) ≡ ended i h v p
end_missed i h v p t k e high asked none is = ap (λ (x : ReplayError). finish p.rows (Refused x)) is ∙ sym (ends_by_fault i h v p t k high asked ∙ sym (ap (fault_told i h v p) none))

test_of : (m : EndMark) (end : EndMark) (ic reason value : ℕ) (b : Bool) → end ≡ record { ic = ic; reason = reason; value = value } → b ≡ (end.reason == m.reason && (end.value == m.value)) → (reason == m.reason && (value == m.value)) ≡ b
test_of m end ic reason value b is test = ap (λ (x : EndMark). x.reason == m.reason && (x.value == m.value)) (sym is) ∙ sym test

pub end_met : (i : Program) (h : ℕ) (v : Interval) (p : Position) (t : HartState) (k : Want) (f : Fault) (y : ℕ) (end : EndMark) (row : Row) (o : Outcome) (b : Bool) → 16 < v.mark.reason → ◌≡◌ {A = Ask} (record { state = t; want = k }) (ask_of i 1 p.state)
    → Some (f, y) ≡ fault_in k → end ≡ record { ic = p.state.ic; reason = 16 + fault_number f; value = y } → b ≡ (end.reason == v.mark.reason && (end.value == v.mark.value)) → b ≡ true
    → row ≡ fault_row h i p.state f y → o ≡ left_over h v p → finish (row ∷ p.rows) o ≡ ended i h v p
end_met i h v p t k f y end row o b high asked some is test met told left =
    ap (λ (r : Row). finish (r ∷ p.rows) o) told ∙ ap (finish (fault_row h i p.state f y ∷ p.rows)) left
    ∙ sym (ends_by_fault i h v p t k high asked ∙ sym (ap (fault_told i h v p) some)
    ∙ ap (λ (x : Bool). elim x as (λ u. Replayed) [ true ↦ finish (fault_row h i p.state f y ∷ p.rows) (left_over h v p) | false ↦ finish p.rows (Refused (EndDiffers h v.mark (found p.state.ic (16 + fault_number f) y))) ]) (test_of v.mark end p.state.ic (16 + fault_number f) y b is test ∙ met))

pub end_other : (i : Program) (h : ℕ) (v : Interval) (p : Position) (t : HartState) (k : Want) (f : Fault) (y : ℕ) (end : EndMark) (e : ReplayError) (b : Bool) → 16 < v.mark.reason → ◌≡◌ {A = Ask} (record { state = t; want = k }) (ask_of i 1 p.state)
    → Some (f, y) ≡ fault_in k → end ≡ record { ic = p.state.ic; reason = 16 + fault_number f; value = y } → b ≡ (end.reason == v.mark.reason && (end.value == v.mark.value)) → b ≡ false
    → e ≡ EndDiffers h v.mark end → finish p.rows (Refused e) ≡ ended i h v p
end_other i h v p t k f y end e b high asked some is test unmet error =
    ap (λ (x : ReplayError). finish p.rows (Refused x)) (error ∙ ap (EndDiffers h v.mark) is)
    ∙ sym (ends_by_fault i h v p t k high asked ∙ sym (ap (fault_told i h v p) some)
    ∙ ap (λ (x : Bool). elim x as (λ u. Replayed) [ true ↦ finish (fault_row h i p.state f y ∷ p.rows) (left_over h v p) | false ↦ finish p.rows (Refused (EndDiffers h v.mark (found p.state.ic (16 + fault_number f) y))) ]) (test_of v.mark end p.state.ic (16 + fault_number f) y b is test ∙ unmet))
