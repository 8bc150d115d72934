-- Registers and words after a row of a replay.
use Rattle.slice_back.proofs.Common.{◌≡◌, ℕ, ◌+◌, ◌<◌, ◌==◌, ◌⊎◌, Bool, true, false, not, cond, List, length, Option, Some, None, refl, sym, ◌∙◌, ap, subst, inl, inr, arith, slice_index, Program, code_at, EndMark, Row, HartState, Instruction, aligned, Step, Asks, step, after, Reply, Answer, Over, Want, Load, Store, LoadReserved, StoreConditional, Amo, System, Cut, Faulted, eqb_tells, instruction_in, row_of, known, Interval, Position, logged, or_else, word_for, call_reg, call_answer, Pending, due, is_call, stores_part, part_stored, word_of, used_word, note}
use Rattle.slice_back.proofs.Meanings.{Changed, AskShape, Shape}
use Rattle.slice_back.proofs.Turns.{IsAsk, reply_for, asked_row, count_of, Turn}
use Rattle.slice_back.proofs.Turns.Turn.{quiet, asked}
use Rattle.slice_back.proofs.Places.{Linked, linked_due}
use Rattle.slice_back.proofs.Facts.{Code, reg_for, ap_call, row_reg, After, changed_after, asked_changed, put_count, set_here, put_other}

-- ---- registers

-- a system call changes a0 if the hart continues, and no register else
call_after : (m : EndMark) (n : ℕ) (args : List ℕ) (s t : HartState) → 10 < length s.x → t ≡ after (System n args) (call_answer m.reason m.value) s → (r : ℕ) → After (call_reg m.reason m.value) s.x t.x r
call_after m n args s t count e r = by (m.reason == 2) e
  where
    by : (b : Bool) → t ≡ after (System n args) (elim b as (λ x. Reply) [ true ↦ Answer m.value | false ↦ Over ]) s → After (elim b as (λ x. Option (ℕ × ℕ)) [ true ↦ Some (10, m.value) | false ↦ None ]) s.x t.x r
    by false f = inr (refl, ap (λ (u : HartState). slice_index u.x r) f)
    by true f = elim (eqb_tells 10 r) [
      | inl p ↦ inl (ap (λ k. Some (10, k)) (sym (ap (λ (u : HartState). slice_index u.x 10) f ∙ set_here 10 m.value s.x count)) ∙ ap (λ k. Some (k, slice_index t.x k)) p.1)
      | inr p ↦ inr (p.0, ap (λ (u : HartState). slice_index u.x r) f ∙ put_other 10 r m.value s.x p.1)
    ]

pub row_after : (i : Program) (h : ℕ) (v : Interval) (p q : Position) (row : Row) (c : Code i p.state) → 10 < length p.state.x → Turn i h v p q row → (r : ℕ) → After row.reg p.state.x q.state.x r
row_after i h v p q row c count t r = subst (λ (o : Option (ℕ × ℕ)). After o p.state.x q.state.x r) (sym (row_reg i h v p q row c t)) (by (is_call c.code.name) refl t)
  where
    by : (b : Bool) → is_call c.code.name ≡ b → Turn i h v p q row → After (reg_for c.code q.state v.mark) p.state.x q.state.x r
    by b f (quiet e u n) =
        let g = subst (λ (x : Step). Shape c.code.name c.code p.state x) e c.form in
        subst (λ (o : Option (ℕ × ℕ)). After o p.state.x q.state.x r) (sym (ap_call c.code q.state v.mark false g.0)) (changed_after c.code p.state q.state g.1 r)
    by false f (asked k b x e a u w o n) =
        let g = subst (λ (y : Step). Shape c.code.name c.code p.state y) e c.form in
        subst (λ (o : Option (ℕ × ℕ)). After o p.state.x q.state.x r) (sym (ap_call c.code q.state v.mark false f)) (changed_after c.code p.state q.state (asked_changed v.mark c.code k p.state q.state b x a g f u) r)
    by true f (asked k b x e a u w o n) = subst (λ (o : Option (ℕ × ℕ)). After o p.state.x q.state.x r) (sym (ap_call c.code q.state v.mark true f)) (call k a (subst (λ (y : Step). Shape c.code.name c.code p.state y) e c.form) u)
      where
        not_call : is_call c.code.name ≡ false → ⊥
        not_call g = let z : true ≡ false = sym f ∙ g in cc

        call : (k : Want) → IsAsk k → AskShape c.code.name c.code k → q.state ≡ after k (reply_for v.mark k b x) p.state → After (call_reg v.mark.reason v.mark.value) p.state.x q.state.x r
        call (Load a w g rd) y s u = absurd (not_call s.1)
        call (LoadReserved a rd) y s u = absurd (not_call s.1)
        call (Amo a o rd z) y s u = absurd (not_call s.1)
        call (Store a w z) y s u = absurd (not_call s.1)
        call (StoreConditional a rd z) y s u = absurd (not_call s.1)
        call (System n args) y s u = call_after v.mark n args p.state q.state count u r
        call Cut y s u = absurd y
        call (Faulted g z) y s u = absurd y

-- the number of registers stays
changed_count : (d : Instruction) (s t : HartState) → Changed d s t → length t.x ≡ length s.x
changed_count d s t (inl c) = ap length c.1 ∙ put_count d.rd c.0 s.x
changed_count d s t (inr e) = ap length e

pub row_count : (i : Program) (h : ℕ) (v : Interval) (p q : Position) (row : Row) (c : Code i p.state) → Turn i h v p q row → length q.state.x ≡ length p.state.x
row_count i h v p q row c (quiet e u n) = changed_count c.code p.state q.state (subst (λ (x : Step). Shape c.code.name c.code p.state x) e c.form).1
row_count i h v p q row c (asked k b x e a u w o n) = by k a (subst (λ (y : Step). Shape c.code.name c.code p.state y) e c.form) u
  where
    call : (m : ℕ) (args : List ℕ) (y : Bool) → q.state ≡ after (System m args) (elim y as (λ z. Reply) [ true ↦ Answer v.mark.value | false ↦ Over ]) p.state → length q.state.x ≡ length p.state.x
    call m args true f = ap (λ (s : HartState). length s.x) f ∙ put_count 10 v.mark.value p.state.x
    call m args false f = ap (λ (s : HartState). length s.x) f

    by : (k : Want) → IsAsk k → AskShape c.code.name c.code k → q.state ≡ after k (reply_for v.mark k b x) p.state → length q.state.x ≡ length p.state.x
    by (Load a w g rd) y s u = changed_count c.code p.state q.state (asked_changed v.mark c.code (Load a w g rd) p.state q.state b x y s s.1 u)
    by (LoadReserved a rd) y s u = changed_count c.code p.state q.state (asked_changed v.mark c.code (LoadReserved a rd) p.state q.state b x y s s.1 u)
    by (Amo a o rd z) y s u = changed_count c.code p.state q.state (asked_changed v.mark c.code (Amo a o rd z) p.state q.state b x y s s.1 u)
    by (Store a w z) y s u = changed_count c.code p.state q.state (asked_changed v.mark c.code (Store a w z) p.state q.state b x y s s.1 u)
    by (StoreConditional a rd z) y s u = changed_count c.code p.state q.state (asked_changed v.mark c.code (StoreConditional a rd z) p.state q.state b x y s s.1 u)
    by (System m args) y s u = call m args (v.mark.reason == 2) u
    by Cut y s u = absurd y
    by (Faulted g z) y s u = absurd y

-- ---- the word that it uses

-- the word of a loading access
abbrev pub used_by : Want → Option ℕ
used_by (Load a w g rd) = Some (aligned a)
used_by (LoadReserved a rd) = Some (aligned a)
used_by (Amo a o rd y) = Some (aligned a)
used_by (Store a w y) = elim (w == 4) [ true ↦ None | false ↦ Some (aligned a) ]
used_by (StoreConditional a rd y) = None
used_by (System n args) = None
used_by Cut = None
used_by (Faulted f y) = None

pub no_store : (b : Bool) → part_stored b None ≡ None
no_store true = refl
no_store false = refl

-- a store uses its word if it stores a part
part : (o : Option ℕ) (b c : Bool) → b ≡ not c → (elim b as (λ x. Option ℕ) [ true ↦ o | false ↦ None ]) ≡ (elim c as (λ x. Option ℕ) [ true ↦ None | false ↦ o ])
part o b true e = ap (λ d. elim d as (λ x. Option ℕ) [ true ↦ o | false ↦ None ]) e
part o b false e = ap (λ d. elim d as (λ x. Option ℕ) [ true ↦ o | false ↦ None ]) e

pub row_uses : (i : Program) (h : ℕ) (v : Interval) (p q : Position) (row : Row) (c : Code i p.state) (k : Want) (b : Bool) (x : ℕ) → IsAsk k → step i p.state ≡ Asks k → row ≡ asked_row h i p.state q.state v.mark k b x → used_word row ≡ used_by k
row_uses i h v p q row c k b x a e r = ap used_word r ∙ by k a (subst (λ (y : Step). Shape c.code.name c.code p.state y) e c.form)
  where
    by : (k : Want) → IsAsk k → AskShape c.code.name c.code k → used_word (asked_row h i p.state q.state v.mark k b x) ≡ used_by k
    by (Load a w g rd) y s = refl
    by (LoadReserved a rd) y s = refl
    by (Amo a o rd z) y s = refl
    by (Store a w z) y s = part (Some (aligned a)) (stores_part (instruction_in (code_at i p.state.pc))) (w == 4) (ap stores_part c.is ∙ s.2)
    by (StoreConditional a rd z) y s = ap (λ d. elim d as (λ u. Option ℕ) [ true ↦ word_of (cond b (Some (a, z)) None) | false ↦ None ]) (ap stores_part c.is ∙ s.2)
    by (System m args) y s = no_store (stores_part (instruction_in (code_at i p.state.pc)))
    by Cut y s = absurd y
    by (Faulted g z) y s = absurd y

pub quiet_uses : (i : Program) (h : ℕ) (p q : Position) (row : Row) → row ≡ row_of h i p.state q.state None None → used_word row ≡ None
quiet_uses i h p q row r = ap used_word r ∙ no_store (stores_part (instruction_in (code_at i p.state.pc)))

abbrev pub ask_count : Option ℕ → ℕ
ask_count o = elim o [ None ↦ 0 | Some a ↦ 1 ]

counts : (k : Want) → count_of k ≡ ask_count (used_by k)
counts (Load a w g rd) = refl
counts (LoadReserved a rd) = refl
counts (Amo a o rd y) = refl
counts (Store a w y) = by (w == 4)
  where
    by : (b : Bool) → (elim b as (λ u. ℕ) [ true ↦ 0 | false ↦ 1 ]) ≡ ask_count (elim b as (λ u. Option ℕ) [ true ↦ None | false ↦ Some (aligned a) ])
    by true = refl
    by false = refl
counts (StoreConditional a rd y) = refl
counts (System n args) = refl
counts Cut = refl
counts (Faulted f y) = refl

-- how many loading accesses the row is
pub row_loads : (i : Program) (h : ℕ) (v : Interval) (p q : Position) (row : Row) (c : Code i p.state) → Turn i h v p q row → q.loads ≡ p.loads + ask_count (used_word row)
row_loads i h v p q row c (quiet e r n) = n ∙ (let z : p.loads ≡ p.loads + 0 = omega arith in z) ∙ ap (λ o. p.loads + ask_count o) (sym (quiet_uses i h p q row r))
row_loads i h v p q row c (asked k b x e a u r w n) = n ∙ ap (λ m. p.loads + m) (counts k ∙ ap ask_count (sym (row_uses i h v p q row c k b x a e r)))

-- ---- the source of its word

-- the word of a loading access is the first load's that it took, or the one that the rows know
abbrev pub Source : Option ℕ → List Row → ℕ → ℕ → Type 0
Source first rows a x = (first ≡ Some x) ⊎ ((first ≡ None) × (known a rows ≡ Some x))

pub source_of : (v : Interval) (pend : Pending) (p : Position) (row : Row) (a x : ℕ) → Linked v pend p.loads → used_word row ≡ Some (aligned a) → word_for v p a ≡ Some x → Source (note pend row).first_load p.rows (aligned a) x
source_of v pend p row a x l u w = subst (λ (o : Option ℕ). Source o p.rows (aligned a) x) (sym first) (by (logged v.loads p.loads) w)
  where
    first : (note pend row).first_load ≡ logged v.loads p.loads
    first = ap (λ o. elim o as (λ y. Option ℕ) [ None ↦ None | Some b ↦ due pend.skipped pend.loads ]) u ∙ sym (linked_due v pend p.loads l)

    by : (o : Option ℕ) → or_else o (known (aligned a) p.rows) ≡ Some x → Source o p.rows (aligned a) x
    by None e = inr (refl, e)
    by (Some y) e = inl e
