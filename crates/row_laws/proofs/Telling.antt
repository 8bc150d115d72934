-- The words that the row of an ask tells.
use Rattle.row_laws.proofs.Common.{◌≡◌, ℕ, Bool, true, false, ◌&&◌, cond, [], ◌∷◌, Option, Some, None, sym, ◌∙◌, ap, subst, inl, inr, ◌==◌, eq-eqb, eqb_tells, Program, may_load, may_store, Row, RawSettings, HartState, stored_word, amo_result, passes, is_counted, aligned, Want, Load, Store, LoadReserved, StoreConditional, Amo, System, Cut, Faulted, row_of, call_row, fault_row, at_address, Point, Machine, answer_sc, is_reserved, sc_store, answered_reg, Run, point_of, points_after, sc_span, budget, AsksOrderly, word_told, word_point, Adds, RowsTellWords, want_at, asked_at, point_at, aligned_own, same_Some, none-some, and_parts, refl, RowsThatTellHaveNoFault}
use Rattle.bus_memory.specs.Contents.{updated}
use Rattle.row_laws.proofs.Along.{asked_rows}
use Rattle.row_laws.proofs.Cases.{heads, turn_row}
use Rattle.replay_laws.proofs.Asked.{state_after as answered_state, reply_to, memory_after as answered_memory, span_to}
use Rattle.row_laws.proofs.Asked.{turn_served}

-- an access tells the word of its own address
pub told_at : (b v a word : ℕ) → at_address a (Some (b, v)) None ≡ Some word → (aligned b ≡ a) × (v ≡ word)
told_at b v a word e = elim (eqb_tells (aligned b) a) [
  | inl p ↦ (p.1, same_Some v word (sym (ap (λ x. elim x as (λ y. Option ℕ) [ true ↦ Some v | false ↦ None ]) p.0) ∙ e))
  | inr p ↦ absurd (none-some word (sym (ap (λ x. elim x as (λ y. Option ℕ) [ true ↦ Some v | false ↦ None ]) p.0) ∙ e))
]

told_both : (b v w a word : ℕ) → at_address a (Some (b, v)) (at_address a (Some (b, w)) None) ≡ Some word → (aligned b ≡ a) × (v ≡ word)
told_both b v w a word e = elim (eqb_tells (aligned b) a) [
  | inl p ↦ (p.1, same_Some v word (sym (by p.0) ∙ e))
  | inr p ↦ absurd (none-some word (sym (by p.0) ∙ e))
]
  where
    by : {x : Bool} → (aligned b == a) ≡ x → at_address a (Some (b, v)) (at_address a (Some (b, w)) None)
        ≡ elim x as (λ y. Option ℕ) [ true ↦ Some v | false ↦ elim x as (λ y. Option ℕ) [ true ↦ Some w | false ↦ None ] ]
    by f = ap (λ x. elim x as (λ y. Option ℕ) [ true ↦ Some v | false ↦ elim x as (λ y. Option ℕ) [ true ↦ Some w | false ↦ None ] ]) f

pub updated_here : (k v : ℕ) (m : ℕ → ℕ) (b : ℕ) → b ≡ k → updated k v m b ≡ v
updated_here k v m b e = ap (λ x. cond x v (m b)) (eq-eqb b k e)

pub no_row : (r : Row) → [] ≡ r ∷ [] → ⊥
no_row r e = cc

-- what is to be shown of a row of an ask
abbrev Tells : RawSettings → Program → Machine → ℕ → Want → HartState → ℕ → ℕ → ℕ → Row → Type 0
Tells c i m h w s turns a word r = word_told r a ≡ Some word → (answered_memory c i m h w s a ≡ word) × (point_of h s.ic turns (span_to c i m h w s) ≡ Some (word_point h turns r a))

-- that of a store-conditional
abbrev ScTells : Bool → Program → Machine → ℕ → ℕ → ℕ → HartState → HartState → ℕ → ℕ → ℕ → Type 0
ScTells x i m h b v s t turns a word =
    let r = row_of h i s t None (sc_store (answer_sc x b v h m).reply b v) in
    word_told r a ≡ Some word → ((answer_sc x b v h m).machine.memory a ≡ word) × (point_of h s.ic turns (sc_span (answer_sc x b v h m).reply b) ≡ Some (word_point h turns r a))

sc_tells : (x : Bool) (i : Program) (m : Machine) (h b v : ℕ) (s t : HartState) (turns a word : ℕ) → aligned b ≡ b → ScTells x i m h b v s t turns a word
sc_tells true i m h b v s t turns a word own e =
    let p = told_at b v a word e in
    let is : b ≡ a = sym own ∙ p.0 in
    (updated_here b v m.memory a (sym is) ∙ p.1, ap (λ z. Some (word_point h turns (row_of h i s t None (Some (b, v))) z)) is)
sc_tells false i m h b v s t turns a word own e = absurd (none-some word e)

want_tells : (w : Want) (c : RawSettings) (i : Program) (m : Machine) (h : ℕ) (s : HartState) (turns a word : ℕ) (r : Row) → passes i w ≡ true
    → asked_rows c i m h w s ≡ r ∷ [] → Tells c i m h w s turns a word r
want_tells (Load b wd g rd) c i m h s turns a word r fine is =
    let x : Row = row_of h i s (answered_state c i m h (Load b wd g rd) s) (Some (b, m.memory (aligned b))) None in
    subst (Tells c i m h (Load b wd g rd) s turns a word) (heads x r [] [] is)
    (λ e. (let p = told_at b (m.memory (aligned b)) a word e in (ap m.memory (sym p.0) ∙ p.1, ap (λ z. Some (word_point h turns x z)) p.0)))
want_tells (LoadReserved b rd) c i m h s turns a word r fine is =
    let x : Row = row_of h i s (answered_state c i m h (LoadReserved b rd) s) (Some (b, m.memory b)) None in
    subst (Tells c i m h (LoadReserved b rd) s turns a word) (heads x r [] [] is)
    (λ e. (let p = told_at b (m.memory b) a word e in
    let same : b ≡ a = sym (aligned_own b (may_load i b) fine) ∙ p.0 in (ap m.memory (sym same) ∙ p.1, ap (λ z. Some (word_point h turns x z)) same)))
want_tells (Store b wd v) c i m h s turns a word r fine is =
    let new : ℕ = stored_word b wd v (m.memory (aligned b)) in
    let x : Row = row_of h i s (answered_state c i m h (Store b wd v) s) None (Some (b, new)) in
    subst (Tells c i m h (Store b wd v) s turns a word) (heads x r [] [] is)
    (λ e. (let p = told_at b new a word e in (updated_here (aligned b) new m.memory a (sym p.0) ∙ p.1, ap (λ z. Some (word_point h turns x z)) p.0)))
want_tells (Amo b o rd v) c i m h s turns a word r fine is =
    let new : ℕ = amo_result o (m.memory b) v in
    let x : Row = row_of h i s (answered_state c i m h (Amo b o rd v) s) (Some (b, m.memory b)) (Some (b, new)) in
    subst (Tells c i m h (Amo b o rd v) s turns a word) (heads x r [] [] is)
    (λ e. (let p = told_both b new (m.memory b) a word e in
    let same : b ≡ a = sym (aligned_own b (may_load i b && may_store i b) fine) ∙ p.0 in (updated_here b new m.memory a (sym same) ∙ p.1, ap (λ z. Some (word_point h turns x z)) same)))
want_tells (StoreConditional b rd v) c i m h s turns a word r fine is =
    let x : Row = row_of h i s (answered_state c i m h (StoreConditional b rd v) s) None (sc_store (reply_to c i m h (StoreConditional b rd v) s) b v) in
    subst (Tells c i m h (StoreConditional b rd v) s turns a word) (heads x r [] [] is)
    (sc_tells (is_reserved (m.reserved h) b) i m h b v s (answered_state c i m h (StoreConditional b rd v) s) turns a word (aligned_own b (may_load i b && may_store i b) fine))
want_tells (System n args) c i m h s turns a word r fine is = λ e. absurd (none-some word (ap (λ (x : Row). word_told x a) (heads (call_row h i s (answered_reg (reply_to c i m h (System n args) s))) r [] [] is) ∙ e))
want_tells Cut c i m h s turns a word r fine is = absurd (no_row r is)
want_tells (Faulted f y) c i m h s turns a word r fine is = λ e. absurd (none-some word (ap (λ (x : Row). word_told x a) (heads (fault_row h i s f y) r [] [] is) ∙ e))

-- an orderly ask passes the program's tests
pub passing : (c : RawSettings) (i : Program) (run : Run) (h : ℕ) → AsksOrderly c i run h → passes i (want_at c i run h) ≡ true
passing c i run h o = (and_parts (is_counted (run.harts h).state.ic (budget c (run.harts h)) (want_at c i run h) (asked_at c i run h).ic) (passes i (want_at c i run h)) o).1

-- the point that a turn adds
pub adds_point : (c : RawSettings) (i : Program) (run : Run) (h : ℕ) (p : Point) → AsksOrderly c i run h → point_at c i run h ≡ Some p → Adds c i run h p
adds_point c i run h p o e = ap (λ (x : Run). x.points) (turn_served c i run h o) ∙ ap (λ x. points_after x run.points) e

pub rows_tell_words : RowsTellWords
rows_tell_words c i run h before r a word o has e = elim (turn_row c i run h before r has) [
  | inl q ↦ absurd (none-some word (ap (λ (x : Row). word_told x a) q.row ∙ e))
  | inr q ↦ (let t = want_tells (want_at c i run h) c i run.machine h (asked_at c i run h) run.turns a word r (passing c i run h o) q.row e in
      (ap (λ (x : Run). x.machine.memory a) (turn_served c i run h o) ∙ t.0, adds_point c i run h (word_point h run.turns r a) o t.1))
]

-- ---- a row that tells a word is of no fault

module _ (c : RawSettings) (i : Program) (m : Machine) (h : ℕ) (s : HartState) (a word : ℕ) (r : Row) where
  is_first : (x : Row) → x.fault ≡ None → x ∷ [] ≡ r ∷ [] → r.fault ≡ None
  is_first x e f = ap (λ (y : Row). y.fault) (sym (heads x r [] [] f)) ∙ e

  want_faultless : (w : Want) → asked_rows c i m h w s ≡ r ∷ [] → word_told r a ≡ Some word → r.fault ≡ None
  want_faultless Cut e t = absurd (no_row r e)
  want_faultless (Faulted f y) e t = absurd (none-some word (ap (λ (x : Row). word_told x a) (heads (fault_row h i s f y) r [] [] e) ∙ t))
  want_faultless w e t = is_first _ refl e

pub rows_that_tell : RowsThatTellHaveNoFault
rows_that_tell c i run h before r a word has t = elim (turn_row c i run h before r has) [
  | inl q ↦ absurd (none-some word (ap (λ (x : Row). word_told x a) q.row ∙ t))
  | inr q ↦ want_faultless c i run.machine h (asked_at c i run h) a word r (want_at c i run h) q.row t
]
