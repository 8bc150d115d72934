-- The same row of two replays.
use Rattle.slice_back.proofs.Common.{◌≡◌, ℕ, ◌==◌, ◌||◌, Bool, true, false, cond, length, Option, Some, None, refl, sym, ◌∙◌, ap, subst, slice_index, Program, code_at, put_reg, EndMark, Fault, Row, HartState, Instruction, aligned, loaded_value, stored_word, amo_result, Step, step, executed, fetched, meaning, after, reg, Want, Load, Store, LoadReserved, StoreConditional, Amo, System, Cut, Faulted, instruction_in, written, call_reg, is_call, reads, bare, address_of, eq-eqb, eqb-true, or_left, or_right}
use Rattle.slice_back.proofs.Meanings.{AskShape, AlikeSteps, SameOperands, SameArguments, alike, written_put, written_none}
use Rattle.slice_back.proofs.Turns.{IsAsk, reply_for, asked_row, whole}
use Rattle.slice_back.proofs.Facts.{Code, StepShape, step_shape, reg_for}
use Rattle.slice_back.proofs.Afters.{used_by}

-- ---- one instruction in two states

abbrev pub code_as : (i : Program) (s : HartState) (d : Instruction) → instruction_in (code_at i s.pc) ≡ Some d → Code i s
code_as i s d e = let f = subst (λ (o : Option Instruction). StepShape o s (step i s)) e (step_shape i s) in record { code = d; is = e; none = f.0; form = f.1 }

step_means : (i : Program) (s : HartState) (d : Instruction) → instruction_in (code_at i s.pc) ≡ Some d → step i s ≡ meaning d.name i d s
step_means i s d e = by (code_at i s.pc) e
  where
    by : (c : Option ℕ) → instruction_in c ≡ Some d → fetched c i s ≡ meaning d.name i d s
    by None f = absurd cc
    by (Some w) f = ap (λ o. executed o w i s) f

-- the registers that an instruction reads are the same
pub record SameUsed (d : Instruction) (s t : HartState) : Type 0 where
  pub pc : s.pc ≡ t.pc
  pub zero_same : slice_index s.x 0 ≡ slice_index t.x 0
  pub read : (q : ℕ) → (q == 0) ≡ false → reads q (Some d) ≡ true → slice_index s.x q ≡ slice_index t.x q
  pub count : length s.x ≡ length t.x

source_same : (d : Instruction) (s t : HartState) (q : ℕ) → SameUsed d s t → (is_call d.name ≡ false → ((q == d.rs1) || (q == d.rs2)) ≡ true) → is_call d.name ≡ false → slice_index s.x q ≡ slice_index t.x q
source_same d s t q h u f = by (q == 0) refl
  where
    by : (b : Bool) → (q == 0) ≡ b → slice_index s.x q ≡ slice_index t.x q
    by true z = let same : q ≡ 0 = eqb-true q 0 z in ap (λ k. slice_index s.x k) same ∙ h.zero_same ∙ sym (ap (λ k. slice_index t.x k) same)
    by false z = h.read q z (ap (λ (c : Bool). elim c as (λ x. Bool) [ true ↦ (q == 10) || (q == 11) || (q == 12) || (q == 17) | false ↦ (q == d.rs1) || (q == d.rs2) ]) f ∙ u f)

operands : (d : Instruction) (s t : HartState) → SameUsed d s t → is_call d.name ≡ false → SameOperands d s t
operands d s t h f = record {
  pc = h.pc;
  first = source_same d s t d.rs1 h (λ g. or_left (d.rs1 == d.rs1) (d.rs1 == d.rs2) (eq-eqb d.rs1 d.rs1 refl)) f;
  second = source_same d s t d.rs2 h (λ g. or_right (d.rs2 == d.rs1) (d.rs2 == d.rs2) (eq-eqb d.rs2 d.rs2 refl)) f;
  count = h.count;
}

arguments : (d : Instruction) (s t : HartState) → SameUsed d s t → is_call d.name ≡ true → SameArguments s t
arguments d s t h f = (one 17 refl refl, one 10 refl refl, one 11 refl refl, one 12 refl refl)
  where
    one : (q : ℕ) → (q == 0) ≡ false → ((q == 10) || (q == 11) || (q == 12) || (q == 17)) ≡ true → slice_index s.x q ≡ slice_index t.x q
    one q z u = h.read q z (ap (λ (c : Bool). elim c as (λ x. Bool) [ true ↦ (q == 10) || (q == 11) || (q == 12) || (q == 17) | false ↦ (q == d.rs1) || (q == d.rs2) ]) f ∙ u)

pub steps_alike : (i : Program) (s t : HartState) (c : Code i s) → instruction_in (code_at i t.pc) ≡ Some c.code → SameUsed c.code s t → AlikeSteps c.code (step i s) (step i t)
steps_alike i s t c e h =
    subst (λ (x : Step). AlikeSteps c.code x (step i t)) (sym (step_means i s c.code c.is))
    (subst (λ (x : Step). AlikeSteps c.code (meaning c.code.name i c.code s) x) (sym (step_means i t c.code e))
    (alike c.code.name i c.code s t c.none (λ f. operands c.code s t h f) (λ f. arguments c.code s t h f)))

-- ---- the rows of one ask

-- the words of a loading access are the same
abbrev pub SameWord : Want → ℕ → ℕ → Type 0
SameWord k x y = (a : ℕ) → used_by k ≡ Some a → x ≡ y

pub loads_same : (h g : ℕ) (i : Program) (s t u z : HartState) (m n : EndMark) (k : Want) (b c : Bool) (x y : ℕ) → SameWord k x y
    → (asked_row h i s u m k b x).load ≡ (asked_row g i t z n k c y).load
loads_same h g i s t u z m n (Load a w e rd) b c x y f = ap (λ r. Some (a, r)) (f _ refl)
loads_same h g i s t u z m n (LoadReserved a rd) b c x y f = ap (λ r. Some (a, r)) (f _ refl)
loads_same h g i s t u z m n (Amo a o rd v) b c x y f = ap (λ r. Some (a, r)) (f _ refl)
loads_same h g i s t u z m n (Store a w v) b c x y f = refl
loads_same h g i s t u z m n (StoreConditional a rd v) b c x y f = refl
loads_same h g i s t u z m n (System r args) b c x y f = refl
loads_same h g i s t u z m n Cut b c x y f = refl
loads_same h g i s t u z m n (Faulted e v) b c x y f = refl

same_outcome : (a v : ℕ) (b c : Bool) → address_of (cond b (Some (a, v)) None) ≡ address_of (cond c (Some (a, v)) None) → b ≡ c
same_outcome a v true true e = refl
same_outcome a v false false e = refl
same_outcome a v true false e = absurd cc
same_outcome a v false true e = absurd cc

pub stores_same : (h g : ℕ) (i : Program) (s t u z : HartState) (m n : EndMark) (k : Want) (b c : Bool) (x y : ℕ) → SameWord k x y
    → address_of (asked_row h i s u m k b x).store ≡ address_of (asked_row g i t z n k c y).store
    → (asked_row h i s u m k b x).store ≡ (asked_row g i t z n k c y).store
stores_same h g i s t u z m n (Load a w e rd) b c x y f j = refl
stores_same h g i s t u z m n (LoadReserved a rd) b c x y f j = refl
stores_same h g i s t u z m n (Amo a o rd v) b c x y f j = ap (λ r. Some (a, amo_result o r v)) (f _ refl)
stores_same h g i s t u z m n (Store a w v) b c x y f j = ap (λ r. Some (a, r)) (by (w == 4) refl)
  where
    by : (d : Bool) → (w == 4) ≡ d → stored_word a w v x ≡ stored_word a w v y
    by true e = whole a w v x e ∙ sym (whole a w v y e)
    by false e = ap (λ r. stored_word a w v r) (f (aligned a) (ap (λ (d : Bool). elim d as (λ q. Option ℕ) [ true ↦ None | false ↦ Some (aligned a) ]) e))
stores_same h g i s t u z m n (StoreConditional a rd v) b c x y f j = ap (λ (d : Bool). cond d (Some (a, v)) None) (same_outcome a v b c j)
stores_same h g i s t u z m n (System r args) b c x y f j = refl
stores_same h g i s t u z m n Cut b c x y f j = refl
stores_same h g i s t u z m n (Faulted e v) b c x y f j = refl

pub writes_same : (h g : ℕ) (i : Program) (s t u z : HartState) (m n : EndMark) (d : Instruction) (k : Want) (b c : Bool) (x y : ℕ) → IsAsk k → AskShape d.name d k → is_call d.name ≡ false → SameWord k x y → length s.x ≡ length t.x
    → address_of (asked_row h i s u m k b x).store ≡ address_of (asked_row g i t z n k c y).store
    → u ≡ after k (reply_for m k b x) s → z ≡ after k (reply_for n k c y) t → written (Some d) u ≡ written (Some d) z
writes_same h g i s t u z m n d (Load a w e rd) b c x y q f o r l j p v =
    written_put d (loaded_value a w e x) s t u z l (ap (λ (q : HartState). q.x) p ∙ ap (λ r. put_reg r (loaded_value a w e x) s.x) f.0) (ap (λ (q : HartState). q.x) v ∙ ap (λ r. put_reg r (loaded_value a w e y) t.x) f.0 ∙ ap (λ (q : ℕ). put_reg d.rd (loaded_value a w e q) t.x) (sym (r _ refl)))
writes_same h g i s t u z m n d (LoadReserved a rd) b c x y q f o r l j p v =
    written_put d x s t u z l (ap (λ (q : HartState). q.x) p ∙ ap (λ r. put_reg r x s.x) f.0) (ap (λ (q : HartState). q.x) v ∙ ap (λ r. put_reg r y t.x) f.0 ∙ ap (λ q. put_reg d.rd q t.x) (sym (r _ refl)))
writes_same h g i s t u z m n d (Amo a w rd e) b c x y q f o r l j p v =
    written_put d x s t u z l (ap (λ (q : HartState). q.x) p ∙ ap (λ r. put_reg r x s.x) f.0) (ap (λ (q : HartState). q.x) v ∙ ap (λ r. put_reg r y t.x) f.0 ∙ ap (λ q. put_reg d.rd q t.x) (sym (r _ refl)))
writes_same h g i s t u z m n d (Store a w e) b c x y q f o r l j p v = written_none d u z f.0
writes_same h g i s t u z m n d (StoreConditional a rd e) b c x y q f o r l j p v = by b c (same_outcome a e b c j) p v
  where
    by : (b c : Bool) → b ≡ c → u ≡ after (StoreConditional a rd e) (reply_for m (StoreConditional a rd e) b x) s → z ≡ after (StoreConditional a rd e) (reply_for n (StoreConditional a rd e) c y) t → written (Some d) u ≡ written (Some d) z
    by true true k p v = written_put d 0 s t u z l (ap (λ (q : HartState). q.x) p ∙ ap (λ r. put_reg r 0 s.x) f.0) (ap (λ (q : HartState). q.x) v ∙ ap (λ r. put_reg r 0 t.x) f.0)
    by false false k p v = written_put d 1 s t u z l (ap (λ (q : HartState). q.x) p ∙ ap (λ r. put_reg r 1 s.x) f.0) (ap (λ (q : HartState). q.x) v ∙ ap (λ r. put_reg r 1 t.x) f.0)
    by true false k p v = absurd cc
    by false true k p v = absurd cc
writes_same h g i s t u z m n d (System a args) b c x y q f o r l j p v = absurd (let e : true ≡ false = sym f ∙ o in cc)
writes_same h g i s t u z m n d Cut b c x y q f o r l j p v = absurd q
writes_same h g i s t u z m n d (Faulted a w) b c x y q f o r l j p v = absurd q

-- ---- rows with the same fields

pub bare_same : (r s : Row) → r.pc ≡ s.pc → r.word ≡ s.word → r.reg ≡ s.reg → r.load ≡ s.load → r.store ≡ s.store → r.fault ≡ s.fault → bare r ≡ bare s
bare_same r s pc word reg load store fault =
    ap (λ (x : ℕ). let b : Row = record { hart = 0; ic = 0; pc = x; word = r.word; reg = r.reg; load = r.load; store = r.store; fault = r.fault } in b) pc
    ∙ ap (λ (x : Option ℕ). let b : Row = record { hart = 0; ic = 0; pc = s.pc; word = x; reg = r.reg; load = r.load; store = r.store; fault = r.fault } in b) word
    ∙ ap (λ (x : Option (ℕ × ℕ)). let b : Row = record { hart = 0; ic = 0; pc = s.pc; word = s.word; reg = x; load = r.load; store = r.store; fault = r.fault } in b) reg
    ∙ ap (λ (x : Option (ℕ × ℕ)). let b : Row = record { hart = 0; ic = 0; pc = s.pc; word = s.word; reg = s.reg; load = x; store = r.store; fault = r.fault } in b) load
    ∙ ap (λ (x : Option (ℕ × ℕ)). let b : Row = record { hart = 0; ic = 0; pc = s.pc; word = s.word; reg = s.reg; load = s.load; store = x; fault = r.fault } in b) store
    ∙ ap (λ (x : Option (Fault × ℕ)). let b : Row = record { hart = 0; ic = 0; pc = s.pc; word = s.word; reg = s.reg; load = s.load; store = s.store; fault = x } in b) fault

-- the registers that are written are the same
pub reg_same : (d : Instruction) (u z : HartState) (m n : EndMark) → m.reason ≡ n.reason → m.value ≡ n.value → (is_call d.name ≡ false → written (Some d) u ≡ written (Some d) z) → reg_for d u m ≡ reg_for d z n
reg_same d u z m n e f w = by (is_call d.name) refl
  where
    by : (b : Bool) → is_call d.name ≡ b → (elim b as (λ x. Option (ℕ × ℕ)) [ true ↦ call_reg m.reason m.value | false ↦ written (Some d) u ]) ≡ (elim b as (λ x. Option (ℕ × ℕ)) [ true ↦ call_reg n.reason n.value | false ↦ written (Some d) z ])
    by true c = ap (λ k. call_reg k m.value) e ∙ ap (λ k. call_reg n.reason k) f
    by false c = w c
