-- The rows that a replay still gives.
use Rattle.slice_back.proofs.Common.{◌≡◌, ℕ, zero, suc, ◌+◌, ◌==◌, ◌&&◌, ◌||◌, ◌++◌, nat_lt, Bool, true, false, not, List, [], ◌∷◌, take, Option, Some, None, refl, sym, ◌∙◌, ap, Program, fault_number, Fault, Row, Step, Quiet, Asks, step, Want, Load, Store, LoadReserved, StoreConditional, Amo, System, Cut, Faulted, fault_row, Refused, Replayed, Interval, Position, Next, On, Stop, one_step, steps, finish, onto, left_over, found, fault_end, ended, Pending, EndDiffers, Noted, note, passed, noted_from, up_to, before}
use Rattle.slice_back.proofs.Turns.{Turn, TurnTo, turned}

abbrev pub fault_rows : Program → ℕ → Interval → Position → Want → List Row
fault_rows i h v p (Faulted f y) = elim (16 + fault_number f == v.mark.reason && (y == v.mark.value)) [ true ↦ fault_row h i p.state f y ∷ [] | false ↦ [] ]
fault_rows i h v p k = []

abbrev pub end_rows : Program → ℕ → Interval → Position → List Row
end_rows i h v p = elim (nat_lt 16 v.mark.reason) [ true ↦ elim (step i p.state) [ Quiet t ↦ [] | Asks k ↦ fault_rows i h v p k ] | false ↦ [] ]

-- with n instructions left
abbrev pub rows_on : Program → ℕ → Interval → ℕ → Position → List Row
rows_on i h v zero p = end_rows i h v p
rows_on i h v (suc n) p = elim (one_step i h v p) [ On q ↦ take 1 q.rows ++ rows_on i h v n q | Stop o ↦ [] ]

fault_end_rows : (i : Program) (h : ℕ) (v : Interval) (p : Position) (k : Want) → (fault_end i h v p k).rows ≡ onto p.rows (fault_rows i h v p k)
fault_end_rows i h v p (Load a w g rd) = refl
fault_end_rows i h v p (LoadReserved a rd) = refl
fault_end_rows i h v p (Amo a o rd y) = refl
fault_end_rows i h v p (Store a w y) = refl
fault_end_rows i h v p (StoreConditional a rd y) = refl
fault_end_rows i h v p (System n args) = refl
fault_end_rows i h v p Cut = refl
fault_end_rows i h v p (Faulted f y) = by (16 + fault_number f == v.mark.reason && (y == v.mark.value))
  where
    by : (b : Bool) → (elim b as (λ u. Replayed) [ true ↦ finish (fault_row h i p.state f y ∷ p.rows) (left_over h v p) | false ↦ finish p.rows (Refused (EndDiffers h v.mark (found p.state.ic (16 + fault_number f) y))) ]).rows
        ≡ onto p.rows (elim b as (λ u. List Row) [ true ↦ fault_row h i p.state f y ∷ [] | false ↦ [] ])
    by true = refl
    by false = refl

ended_rows : (i : Program) (h : ℕ) (v : Interval) (p : Position) → (ended i h v p).rows ≡ onto p.rows (end_rows i h v p)
ended_rows i h v p = by (nat_lt 16 v.mark.reason) (step i p.state) ((v.mark.reason == 2 || (v.mark.reason == 3) || (v.mark.reason == 4)) && not p.called)
  where
    by : (b : Bool) (x : Step) (c : Bool) → (elim b as (λ u. Replayed) [
      | true ↦ elim x as (λ u. Replayed) [ Quiet t ↦ finish p.rows (Refused (EndDiffers h v.mark (found p.state.ic 1 0))) | Asks k ↦ fault_end i h v p k ]
      | false ↦ elim c as (λ u. Replayed) [ true ↦ finish p.rows (Refused (EndDiffers h v.mark (found p.state.ic 1 0))) | false ↦ finish p.rows (left_over h v p) ]
    ]).rows ≡ onto p.rows (elim b as (λ u. List Row) [ true ↦ elim x as (λ u. List Row) [ Quiet t ↦ [] | Asks k ↦ fault_rows i h v p k ] | false ↦ [] ])
    by true (Quiet t) c = refl
    by true (Asks k) c = fault_end_rows i h v p k
    by false x true = refl
    by false x false = refl

pub steps_rows : (i : Program) (h : ℕ) (v : Interval) (n : ℕ) (p : Position) → (steps i h v n p).rows ≡ onto p.rows (rows_on i h v n p)
steps_rows i h v zero p = ended_rows i h v p
steps_rows i h v (suc n) p = by (one_step i h v p) (turned i h v p) (λ q. steps_rows i h v n q)
  where
    by : (x : Next) → TurnTo i h v p x → ((q : Position) → (steps i h v n q).rows ≡ onto q.rows (rows_on i h v n q)) → (elim x as (λ u. Replayed) [ On q ↦ steps i h v n q | Stop o ↦ finish p.rows o ]).rows
        ≡ onto p.rows (elim x as (λ u. List Row) [ On q ↦ take 1 q.rows ++ rows_on i h v n q | Stop o ↦ [] ])
    by (On q) t later = later q ∙ ap (λ rs. onto rs (rows_on i h v n q)) t.1 ∙ sym (ap (λ rs. onto p.rows (take 1 rs ++ rows_on i h v n q)) t.1)
    by (Stop o) t later = refl

-- ---- the first of them

pub data Head (i : Program) (h : ℕ) (v : Interval) (p : Position) (pend : Pending) (e : Noted) (later more : List Noted) : Type 0 where
  goes : (q : Position) (row : Row) (k : ℕ) → Turn i h v p q row → q.rows ≡ row ∷ p.rows → e ≡ note pend row → later ++ more ≡ noted_from (passed pend row) (rows_on i h v k q) → Head i h v p pend e later more
  faults : (f : Fault) (y : ℕ) → step i p.state ≡ Asks (Faulted f y) → e ≡ note pend (fault_row h i p.state f y) → later ≡ [] → Head i h v p pend e later more

no_rows : (xs ys : List Noted) → xs ++ ys ≡ [] → xs ≡ []
no_rows [] ys e = refl
no_rows (x ∷ xs) ys e = absurd cc

first_same : (e f : Noted) (xs ys : List Noted) → ◌≡◌ {A = List Noted} (e ∷ xs) (f ∷ ys) → (e ≡ f) × (xs ≡ ys)
first_same e f xs ys h = (cc, cc)

pub head : (i : Program) (h : ℕ) (v : Interval) (n : ℕ) (p : Position) (pend : Pending) (e : Noted) (later more : List Noted) → ◌≡◌ {A = List Noted} (e ∷ (later ++ more)) (noted_from pend (rows_on i h v n p)) → Head i h v p pend e later more
head i h v zero p pend e later more eq = by (nat_lt 16 v.mark.reason) (step i p.state) refl eq
  where
    fault : (k : Want) → step i p.state ≡ Asks k → ◌≡◌ {A = List Noted} (e ∷ (later ++ more)) (noted_from pend (fault_rows i h v p k)) → Head i h v p pend e later more
    fault (Load a w g rd) s t = absurd cc
    fault (LoadReserved a rd) s t = absurd cc
    fault (Amo a o rd y) s t = absurd cc
    fault (Store a w y) s t = absurd cc
    fault (StoreConditional a rd y) s t = absurd cc
    fault (System m args) s t = absurd cc
    fault Cut s t = absurd cc
    fault (Faulted f y) s t = at (16 + fault_number f == v.mark.reason && (y == v.mark.value)) t
      where
        at : (b : Bool) → ◌≡◌ {A = List Noted} (e ∷ (later ++ more)) (noted_from pend (elim b as (λ u. List Row) [ true ↦ fault_row h i p.state f y ∷ [] | false ↦ [] ])) → Head i h v p pend e later more
        at true t = let z = first_same e (note pend (fault_row h i p.state f y)) (later ++ more) [] t in faults f y s z.0 (no_rows later more z.1)
        at false t = absurd cc

    by : (b : Bool) (x : Step) → step i p.state ≡ x → ◌≡◌ {A = List Noted} (e ∷ (later ++ more)) (noted_from pend (elim b as (λ u. List Row) [ true ↦ elim x as (λ u. List Row) [ Quiet t ↦ [] | Asks k ↦ fault_rows i h v p k ] | false ↦ [] ])) → Head i h v p pend e later more
    by true (Quiet t) s z = absurd cc
    by true (Asks k) s z = fault k s z
    by false x s z = absurd cc
head i h v (suc n) p pend e later more eq = by (one_step i h v p) (turned i h v p) eq
  where
    by : (x : Next) → TurnTo i h v p x → ◌≡◌ {A = List Noted} (e ∷ (later ++ more)) (noted_from pend (elim x as (λ u. List Row) [ On q ↦ take 1 q.rows ++ rows_on i h v n q | Stop o ↦ [] ])) → Head i h v p pend e later more
    by (On q) t z =
        let parts = first_same e (note pend t.0) (later ++ more) (noted_from (passed pend t.0) (rows_on i h v n q)) (z ∙ ap (λ rs. noted_from pend (take 1 rs ++ rows_on i h v n q)) t.1) in
        goes q t.0 n t.2 t.1 parts.0 parts.1
    by (Stop o) t z = absurd cc

-- ---- the rows up to one

pub up_to_front : (ic : ℕ) (xs es : List Noted) → up_to ic xs ≡ Some es → (more : List Noted) × (es ++ more ≡ xs)
up_to_front ic [] es e = absurd cc
up_to_front ic (x ∷ xs) es e = by (x.row.ic == ic) (up_to ic xs) (λ ys f. up_to_front ic xs ys f) refl e
  where
    by : (b : Bool) (o : Option (List Noted)) → ((ys : List Noted) → up_to ic xs ≡ Some ys → (more : List Noted) × (ys ++ more ≡ xs)) → up_to ic xs ≡ o
        → (elim b as (λ u. Option (List Noted)) [ true ↦ Some (x ∷ []) | false ↦ before x o ]) ≡ Some es → (more : List Noted) × (es ++ more ≡ x ∷ xs)
    by true o rest f g = let same : ◌≡◌ {A = List Noted} (x ∷ []) es = cc in (xs, ap (λ ys. ys ++ xs) (sym same))
    by false None rest f g = absurd cc
    by false (Some ys) rest f g =
        let same : ◌≡◌ {A = List Noted} (x ∷ ys) es = cc in
        let found = rest ys f in
        (found.0, ap (λ zs. zs ++ found.0) (sym same) ∙ ap (λ zs. x ∷ zs) found.1)
