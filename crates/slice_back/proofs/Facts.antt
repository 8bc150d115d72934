-- What a row of a replay tells of the instruction and its states.
use Rattle.slice_back.proofs.Common.{◌≡◌, ◌≢◌, ℕ, zero, suc, ◌<◌, ◌==◌, ◌⊎◌, Bool, true, false, List, [], ◌∷◌, length, Option, Some, None, refl, sym, ◌∙◌, ap, subst, inl, inr, arith, set, slice_index, eqb_tells, Program, code_at, put_reg, EndMark, Row, HartState, Instruction, decoded, loaded_value, Step, Quiet, Asks, step, fetched, executed, after, Want, Load, Store, LoadReserved, StoreConditional, Amo, System, Cut, Faulted, instruction_in, written, Interval, Position, call_reg, is_call, is_of, eqb-true}
use Rattle.slice_back.proofs.Fields.{no_rd}
use Rattle.slice_back.proofs.Meanings.{writes_none, Changed, AskShape, Shape, shape}
use Rattle.slice_back.proofs.Turns.{IsAsk, reply_for, asked_row, Turn}
use Rattle.slice_back.proofs.Turns.Turn.{quiet, asked}

-- ---- the instruction of a step

abbrev pub IsFaulted : Want → Type 0
IsFaulted (Load a w g rd) = ⊥
IsFaulted (LoadReserved a rd) = ⊥
IsFaulted (Amo a o rd y) = ⊥
IsFaulted (Store a w y) = ⊥
IsFaulted (StoreConditional a rd y) = ⊥
IsFaulted (System n args) = ⊥
IsFaulted Cut = ⊥
IsFaulted (Faulted f y) = Unit {0}

-- a step with no instruction faults
abbrev pub StepShape : Option Instruction → HartState → Step → Type 0
StepShape None s (Quiet t) = ⊥
StepShape None s (Asks k) = IsFaulted k
StepShape (Some d) s x = (writes_none d.name ≡ true → (d.rd == 0) ≡ true) × Shape d.name d s x

pub step_shape : (i : Program) (s : HartState) → StepShape (instruction_in (code_at i s.pc)) s (step i s)
step_shape i s = by_code (code_at i s.pc)
  where
    by_word : (w : ℕ) (o : Option Instruction) → decoded w ≡ o → StepShape o s (executed o w i s)
    by_word w None e = tt
    by_word w (Some d) e = (no_rd w d e, shape d.name i d s (no_rd w d e))

    by_code : (c : Option ℕ) → StepShape (instruction_in c) s (fetched c i s)
    by_code None = tt
    by_code (Some w) = by_word w (decoded w) refl

pub record Code (i : Program) (s : HartState) : Type 0 where
  pub code : Instruction
  pub is : instruction_in (code_at i s.pc) ≡ Some code
  pub none : writes_none code.name ≡ true → (code.rd == 0) ≡ true
  pub form : Shape code.name code s (step i s)

-- what isn't a fault has an instruction
pub code_of : (i : Program) (h : ℕ) (v : Interval) (p q : Position) (row : Row) → Turn i h v p q row → Code i p.state
code_of i h v p q row t = by (instruction_in (code_at i p.state.pc)) refl (step_shape i p.state)
  where
    asks : (k : Want) → IsAsk k → IsFaulted k → ⊥
    asks (Load a w g rd) b f = f
    asks (LoadReserved a rd) b f = f
    asks (Amo a o rd y) b f = f
    asks (Store a w y) b f = f
    asks (StoreConditional a rd y) b f = f
    asks (System n args) b f = f
    asks Cut b f = f
    asks (Faulted g y) b f = b

    none : Turn i h v p q row → StepShape None p.state (step i p.state) → ⊥
    none (quiet e r c) f = subst (λ (x : Step). StepShape None p.state x) e f
    none (asked k b x e a u r w c) f = asks k a (subst (λ (y : Step). StepShape None p.state y) e f)

    by : (o : Option Instruction) → instruction_in (code_at i p.state.pc) ≡ o → StepShape o p.state (step i p.state) → Code i p.state
    by None e f = absurd (none t f)
    by (Some d) e f = record { code = d; is = e; none = f.0; form = f.1 }

-- ---- the row

-- of an ask, it has the code word at the pc, the pc and no fault
asked_as : (h : ℕ) (i : Program) (s t : HartState) (m : EndMark) (k : Want) (b : Bool) (x : ℕ)
    → let r = asked_row h i s t m k b x in (r.word ≡ code_at i s.pc) × (r.pc ≡ s.pc) × (r.fault ≡ None)
asked_as h i s t m (Load a w g rd) b x = (refl, refl, refl)
asked_as h i s t m (LoadReserved a rd) b x = (refl, refl, refl)
asked_as h i s t m (Amo a o rd y) b x = (refl, refl, refl)
asked_as h i s t m (Store a w y) b x = (refl, refl, refl)
asked_as h i s t m (StoreConditional a rd y) b x = (refl, refl, refl)
asked_as h i s t m (System n args) b x = (refl, refl, refl)
asked_as h i s t m Cut b x = (refl, refl, refl)
asked_as h i s t m (Faulted f y) b x = (refl, refl, refl)

pub row_word : (i : Program) (h : ℕ) (v : Interval) (p q : Position) (row : Row) → Turn i h v p q row → row.word ≡ code_at i p.state.pc
row_word i h v p q row (quiet e r c) = ap (λ (x : Row). x.word) r
row_word i h v p q row (asked k b x e a u r w c) = ap (λ (x : Row). x.word) r ∙ (asked_as h i p.state q.state v.mark k b x).0

pub row_pc : (i : Program) (h : ℕ) (v : Interval) (p q : Position) (row : Row) → Turn i h v p q row → row.pc ≡ p.state.pc
row_pc i h v p q row (quiet e r c) = ap (λ (x : Row). x.pc) r
row_pc i h v p q row (asked k b x e a u r w c) = ap (λ (x : Row). x.pc) r ∙ (asked_as h i p.state q.state v.mark k b x).1

pub row_fault : (i : Program) (h : ℕ) (v : Interval) (p q : Position) (row : Row) → Turn i h v p q row → row.fault ≡ None
row_fault i h v p q row (quiet e r c) = ap (λ (x : Row). x.fault) r
row_fault i h v p q row (asked k b x e a u r w c) = ap (λ (x : Row). x.fault) r ∙ (asked_as h i p.state q.state v.mark k b x).2

-- ---- the register that it wrote

-- what an instruction writes: a system call its result, any other rd
abbrev pub reg_for : Instruction → HartState → EndMark → Option (ℕ × ℕ)
reg_for d t m = elim (is_call d.name) [ true ↦ call_reg m.reason m.value | false ↦ written (Some d) t ]

pub ap_call : (d : Instruction) (t : HartState) (m : EndMark) (b : Bool) → is_call d.name ≡ b → reg_for d t m ≡ elim b as (λ x. Option (ℕ × ℕ)) [ true ↦ call_reg m.reason m.value | false ↦ written (Some d) t ]
ap_call d t m b e = ap (λ (c : Bool). elim c as (λ x. Option (ℕ × ℕ)) [ true ↦ call_reg m.reason m.value | false ↦ written (Some d) t ]) e

pub row_reg : (i : Program) (h : ℕ) (v : Interval) (p q : Position) (row : Row) (c : Code i p.state) → Turn i h v p q row → row.reg ≡ reg_for c.code q.state v.mark
row_reg i h v p q row c (quiet e r n) =
    let f = subst (λ (x : Step). Shape c.code.name c.code p.state x) e c.form in
    ap (λ (x : Row). x.reg) r ∙ ap (λ o. written o q.state) c.is ∙ sym (ap_call c.code q.state v.mark false f.0)
row_reg i h v p q row c (asked k b x e a u r w n) = ap (λ (x : Row). x.reg) r ∙ by k a (subst (λ (y : Step). Shape c.code.name c.code p.state y) e c.form)
  where
    other : is_call c.code.name ≡ false → written (instruction_in (code_at i p.state.pc)) q.state ≡ reg_for c.code q.state v.mark
    other f = ap (λ o. written o q.state) c.is ∙ sym (ap_call c.code q.state v.mark false f)

    by : (k : Want) → IsAsk k → AskShape c.code.name c.code k → (asked_row h i p.state q.state v.mark k b x).reg ≡ reg_for c.code q.state v.mark
    by (Load a w g rd) t f = other f.1
    by (LoadReserved a rd) t f = other f.1
    by (Amo a o rd y) t f = other f.1
    by (Store a w y) t f = other f.1
    by (StoreConditional a rd y) t f = other f.1
    by (System n args) t f = sym (ap_call c.code q.state v.mark true f)
    by Cut t f = absurd t
    by (Faulted g y) t f = absurd t

-- whether a register is written doesn't depend on the state
pub same_writes : (d : Instruction) (t u : HartState) (m n : EndMark) → m.reason ≡ n.reason → m.value ≡ n.value → (r : ℕ) → is_of r (reg_for d t m) ≡ is_of r (reg_for d u n)
same_writes d t u m n e f r = by (is_call d.name) (d.rd == 0)
  where
    by : (b c : Bool) → is_of r (elim b as (λ x. Option (ℕ × ℕ)) [ true ↦ call_reg m.reason m.value | false ↦ elim c as (λ x. Option (ℕ × ℕ)) [ true ↦ None | false ↦ Some (d.rd, slice_index t.x d.rd) ] ])
        ≡ is_of r (elim b as (λ x. Option (ℕ × ℕ)) [ true ↦ call_reg n.reason n.value | false ↦ elim c as (λ x. Option (ℕ × ℕ)) [ true ↦ None | false ↦ Some (d.rd, slice_index u.x d.rd) ] ])
    by true c = ap (λ k. is_of r (call_reg k m.value)) e ∙ ap (λ k. is_of r (call_reg n.reason k)) f
    by false true = refl
    by false false = refl

-- ---- the registers after it

set_count : (r y : ℕ) (x : List ℕ) → length (set x r y) ≡ length x
set_count r y [] = refl
set_count zero y (a ∷ x) = refl
set_count (suc r) y (a ∷ x) = ap (λ n. suc n) (set_count r y x)

pub put_count : (r y : ℕ) (x : List ℕ) → length (put_reg r y x) ≡ length x
put_count zero y x = refl
put_count (suc r) y x = set_count (suc r) y x

set_other : (r q y : ℕ) (x : List ℕ) → r ≢ q → slice_index (set x r y) q ≡ slice_index x q
set_other r q y [] n = refl
set_other zero zero y (a ∷ x) n = absurd (n refl)
set_other zero (suc q) y (a ∷ x) n = refl
set_other (suc r) zero y (a ∷ x) n = refl
set_other (suc r) (suc q) y (a ∷ x) n = set_other r q y x (λ e. n (ap (λ k. suc k) e))

pub put_other : (r q y : ℕ) (x : List ℕ) → r ≢ q → slice_index (put_reg r y x) q ≡ slice_index x q
put_other zero q y x n = refl
put_other (suc r) q y x n = set_other (suc r) q y x n

-- the tenth of 32
pub set_here : (r y : ℕ) (x : List ℕ) → r < length x → slice_index (set x r y) r ≡ y
set_here r y [] h = absurd (omega (arith, h))
set_here zero y (a ∷ x) h = refl
set_here (suc r) y (a ∷ x) h = set_here r y x (omega (arith, h))

-- a register after a row is the one that the row wrote, or unchanged
abbrev pub After : Option (ℕ × ℕ) → List ℕ → List ℕ → ℕ → Type 0
After reg x y r = (reg ≡ Some (r, slice_index y r)) ⊎ ((is_of r reg ≡ false) × (slice_index y r ≡ slice_index x r))

pub changed_after : (d : Instruction) (s t : HartState) → Changed d s t → (r : ℕ) → After (written (Some d) t) s.x t.x r
changed_after d s t h r = by (d.rd == 0) refl
  where
    none : (d.rd == 0) ≡ true → Changed d s t → slice_index t.x r ≡ slice_index s.x r
    none z (inl c) = ap (λ x. slice_index x r) c.1 ∙ ap (λ n. slice_index (put_reg n c.0 s.x) r) (eqb-true d.rd 0 z)
    none z (inr e) = ap (λ x. slice_index x r) e

    other : d.rd ≢ r → Changed d s t → slice_index t.x r ≡ slice_index s.x r
    other n (inl c) = ap (λ x. slice_index x r) c.1 ∙ put_other d.rd r c.0 s.x n
    other n (inr e) = ap (λ x. slice_index x r) e

    by : (b : Bool) → (d.rd == 0) ≡ b → After (elim b as (λ c. Option (ℕ × ℕ)) [ true ↦ None | false ↦ Some (d.rd, slice_index t.x d.rd) ]) s.x t.x r
    by true z = inr (refl, none z h)
    by false z = elim (eqb_tells d.rd r) [
      | inl p ↦ inl (ap (λ n. Some (n, slice_index t.x n)) p.1)
      | inr p ↦ inr (p.0, other p.1 h)
    ]

-- what an ask changes
pub asked_changed : (n : EndMark) (d : Instruction) (k : Want) (s t : HartState) (b : Bool) (x : ℕ) → IsAsk k → AskShape d.name d k → is_call d.name ≡ false → t ≡ after k (reply_for n k b x) s → Changed d s t
asked_changed n d (Load a w g rd) s t b x h f c e = inl (loaded_value a w g x, ap (λ (u : HartState). u.x) e ∙ ap (λ r. put_reg r (loaded_value a w g x) s.x) f.0)
asked_changed n d (LoadReserved a rd) s t b x h f c e = inl (x, ap (λ (u : HartState). u.x) e ∙ ap (λ r. put_reg r x s.x) f.0)
asked_changed n d (Amo a o rd y) s t b x h f c e = inl (x, ap (λ (u : HartState). u.x) e ∙ ap (λ r. put_reg r x s.x) f.0)
asked_changed n d (Store a w y) s t b x h f c e = inr (ap (λ (u : HartState). u.x) e)
asked_changed n d (StoreConditional a rd y) s t true x h f c e = inl (0, ap (λ (u : HartState). u.x) e ∙ ap (λ r. put_reg r 0 s.x) f.0)
asked_changed n d (StoreConditional a rd y) s t false x h f c e = inl (1, ap (λ (u : HartState). u.x) e ∙ ap (λ r. put_reg r 1 s.x) f.0)
asked_changed n d (System m args) s t b x h f c e = absurd (let z : true ≡ false = sym f ∙ c in cc)
asked_changed n d Cut s t b x h f c e = absurd h
asked_changed n d (Faulted g y) s t b x h f c e = absurd h
